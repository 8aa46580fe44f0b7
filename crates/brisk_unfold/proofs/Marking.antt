-- Senders that are kept and taken, and events that are added.
use Rattle.std.proofs.Common.{◌≡◌, ℕ, Bool, true, false, cond, List, [], ◌∷◌, ◌++◌, Option, Some, None, refl, sym, ap, ◌∙◌}
use Rattle.std.specs.Prelude.{if◌then◌else◌}
use Rattle.std.specs.Ordering.{eq_by_cmp}
use Rattle.std.specs.Cmp.{both_ways, eq_by_cmp_equiv}
use Rattle.std.proofs.lemmas.Map.Views.{tells_apart}
use Rattle.std.specs.FinMap.{get, insert, remove, get-insert, get-remove}
use Rattle.brisk_values.specs.declared.value.Pid.{Pid}
use Rattle.brisk_values.specs.Functions.{changed}
use Rattle.brisk_values.specs.Names.{same_process}
use Rattle.brisk_values.specs.Places.{process_cmp}
use Rattle.brisk_values.proofs.Changes.{exact_process, process_laws}
use Rattle.brisk_values.proofs.Entries.{exact_processes, process_total}
use Rattle.brisk_async.specs.declared.event.Event.{Event}
use Rattle.brisk_rules.specs.Unfolding.{Unfolding, carries}
use Rattle.brisk_unfold.specs.declared.progress.Progress.{Progress}
use Rattle.brisk_unfold.specs.Carried.{Carried, sender_in}
use Rattle.brisk_unfold.specs.Going.{Marks, receives_at}

at_process : (p q : Pid) → eq_by_cmp process_cmp q p ≡ same_process p q
at_process p q = both_ways _ _
    (λ e. ap (same_process p) (tells_apart exact_processes q p e) ∙ process_laws.refl p)
    (λ e. ap (λ z. eq_by_cmp process_cmp z p) (sym (exact_process p q e)) ∙ (eq_by_cmp_equiv process_total).refl p)

conds : {X : Type 0} (b : Bool) (x y : X) → cond b x y ≡ (if b then x else y)
conds true x y = refl
conds false x y = refl

-- to keep a sender changes that of the process
pub kept : (m : Carried) (p w : Pid) → sender_in (insert m p w) ≡ changed same_process (sender_in m) p (Some w)
kept m p w = λ i q. (get-insert process_total m p w q ∙ ap (λ b. cond b (Some w) (sender_in m q)) (at_process p q) ∙ conds _ (Some w) (sender_in m q)) i

-- to take it leaves none
pub taken : (m : Carried) (p : Pid) → sender_in (remove m p) ≡ changed same_process (sender_in m) p None
taken m p = λ i q. (get-remove process_total m p q ∙ ap (λ b. cond b None (sender_in m q)) (at_process p q) ∙ conds _ None (sender_in m q)) i

pub carried : (a : Progress) (p w : Pid) (m : Carried) → m ≡ insert a.senders p w → Marks a (record a { senders = m }) (carries p w)
carried a p w m e = record {
  run = refl;
  differs = λ r i. record { run = r; events = a.events; sender = (ap sender_in e ∙ kept a.senders p w) i };
}

pub received : (a : Progress) (p : Pid) (place : Option ℕ) (w : Option Pid) (m : Carried) (es : List Event) → w ≡ get a.senders p → m ≡ remove a.senders p →
    es ≡ a.events ++ record { process = p; sender = w; place = place } ∷ [] → Marks a (record a { events = es; senders = m }) (receives_at place p)
received a p place w m es sender none added = record {
  run = refl;
  differs = λ r i. record {
    run = r;
    events = (added ∙ ap (λ (z : Option Pid). a.events ++ record { process = p; sender = z; place = place } ∷ []) sender) i;
    sender = (ap sender_in none ∙ taken a.senders p) i;
  };
}

pub marks_then : (a b c : Progress) (f g : Unfolding → Unfolding) → Marks a b f → Marks b c g → Marks a c (λ u. g (f u))
marks_then a b c f g first second = record { run = second.run ∙ first.run; differs = λ r. second.differs r ∙ ap g (first.differs r) }
