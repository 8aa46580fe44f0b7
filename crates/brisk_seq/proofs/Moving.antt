-- What a pass, a fill and a take do to a run in code.
use Rattle.std.proofs.Common.{◌≡◌, ℕ, ◌+◌, ◌-◌, ◌^◌, min, List, [], ◌∷◌, length, Bool, true, false, Option, Some, None, Ok, Err, refl, sym, ap, ◌∙◌, arith}
use Rattle.std.specs.Prelude.{◌≢◌, ◌&&◌, is_some}
use Rattle.std.specs.FinMap.{get}
use Rattle.brisk_values.specs.declared.value.Kind.{Kind}
use Rattle.brisk_values.specs.declared.value.Pid.{Pid}
use Rattle.brisk_values.specs.declared.value.Value.{Value}
use Rattle.brisk_values.specs.Names.{Name}
use Rattle.brisk_values.specs.Places.{Entries, value_in}
use Rattle.brisk_syntax.specs.Stores.{stored}
use Rattle.brisk_seq.specs.declared.boxes.Cell.{Cell}
use Rattle.brisk_seq.specs.declared.evaluator.Running.{Running}
use Rattle.brisk_seq.specs.declared.fault.SeqFault.TheVariants as fault
use Rattle.brisk_seq.specs.Cells.{Full, box_in, with_full, without_full}
use Rattle.brisk_seq.specs.Running.{Goes, Stops, capped, run_of}
use Rattle.brisk_seq.specs.Sequential as spec
use Rattle.brisk_seq.specs.Sequential.{Ended, Run, are_of_kinds, fill, is_of_kind, take, with_box}
use Rattle.brisk_seq.proofs.Filling.{no_box, one_box}
use Rattle.std.proofs.Math.Bool.{and-false}

pub one_more : (k m n : ℕ) → m ≡ min (k + 1) (2 ^ 64 - 1) → k ≡ capped n → m ≡ capped (n + 1)
one_more k m n e h = omega arith

module _ (choices : List ℕ) (old : Running) (moves : ℕ) (counted : moves ≡ min (old.moves + 1) (2 ^ 64 - 1)) where
  pub passes : (p : Pid) (xs : List Name) (vs : Run → List Value) (ws : List Value) (m : Entries) → ((n : ℕ) → ws ≡ vs (run_of choices n old)) → value_in m ≡ stored (value_in old.store) p xs ws →
      Goes choices old (record old { store = m; moves = moves }) (λ r. Ok record r { store = stored r.store p xs (vs r); moves = r.moves + 1 })
  passes p xs vs ws m same done = λ n h. (
    n + 1,
    record { moves = one_more old.moves moves n counted h.moves; asked = h.asked },
    λ i. Ok record (run_of choices n old) { store = sym (done ∙ ap (stored (value_in old.store) p xs) (same n)) i; moves = n + 1 },
  )

  full : (r : Run) (n : ℕ) (p q : Pid) (vs : List Value) (o : Option (List Value)) → is_some o ≡ true → fill r n p q vs o ≡ Err (spec.BadBox (r.moves + 1))
  full r n p q vs None e = cc
  full r n p q vs (Some ws) e = refl

  empty : (r : Run) (n : ℕ) (p q : Pid) (vs : List Value) (o : Option (List Value)) → is_some o ≡ false → fill r n p q vs o ≡ Ok record r { box = with_box n p q (Some vs) r.box; moves = r.moves + 1 }
  empty r n p q vs None e = refl
  empty r n p q vs (Some ws) e = cc

  pub fill_stops : (k : Cell) (vs : Run → List Value) → is_some (get old.boxes k) ≡ true →
      Stops choices old (λ r. fill r k.number k.from k.to (vs r) (r.box k.number k.from k.to)) (fault.BadBox moves)
  fill_stops k vs there = λ n h. (
    n + 1,
    one_more old.moves moves n counted h.moves,
    full (run_of choices n old) k.number k.from k.to (vs (run_of choices n old)) (get old.boxes k) there,
  )

  pub fills : (k : Cell) (vs : Run → List Value) (ws : List Value) (boxes : Full) → is_some (get old.boxes k) ≡ false → ((n : ℕ) → ws ≡ vs (run_of choices n old)) → boxes ≡ with_full k ws old.boxes →
      Goes choices old (record old { boxes = boxes; moves = moves }) (λ r. fill r k.number k.from k.to (vs r) (r.box k.number k.from k.to))
  fills k vs ws boxes absent same put = λ n h.
      let r = run_of choices n old in
      let now : box_in boxes ≡ with_box k.number k.from k.to (Some (vs r)) (box_in old.boxes) = ap box_in put ∙ one_box old.boxes k ws ∙ ap (λ w. with_box k.number k.from k.to (Some w) (box_in old.boxes)) (same n) in (
        n + 1,
        record { moves = one_more old.moves moves n counted h.moves; asked = h.asked },
        empty r k.number k.from k.to (vs r) (get old.boxes k) absent ∙ (λ i. Ok record r { box = sym now i; moves = n + 1 }),
      )

  taken : (r : Run) (kind : Name → Option Kind) (n : ℕ) (p q : Pid) (xs : List Name) (vs : List Value) → are_of_kinds kind xs vs ≡ true →
      take r kind n p q xs (Some vs) ≡ Ok record r { store = stored r.store q xs vs; box = with_box n p q None r.box; moves = r.moves + 1 }
  taken r kind n p q xs vs e = rw e refl

  misfit : (r : Run) (kind : Name → Option Kind) (n : ℕ) (p q : Pid) (xs : List Name) (vs : List Value) → are_of_kinds kind xs vs ≡ false → take r kind n p q xs (Some vs) ≡ Err (spec.BadBox (r.moves + 1))
  misfit r kind n p q xs vs e = rw e refl

  module _ (kind : Name → Option Kind) (k : Cell) (xs : List Name) where
    act : Run → Ended
    act r = take r kind k.number k.from k.to xs (r.box k.number k.from k.to)

    pub none_stops : None ≡ get old.boxes k → Stops choices old (λ r. take r kind k.number k.from k.to xs (r.box k.number k.from k.to)) (fault.BadBox moves)
    none_stops none = λ n h. (n + 1, one_more old.moves moves n counted h.moves, ap (take (run_of choices n old) kind k.number k.from k.to xs) (sym none))

    pub take_stops : (vs : List Value) → Some vs ≡ get old.boxes k → are_of_kinds kind xs vs ≡ false →
        Stops choices old (λ r. take r kind k.number k.from k.to xs (r.box k.number k.from k.to)) (fault.BadBox moves)
    take_stops vs there other = λ n h.
        let r = run_of choices n old in
        (n + 1, one_more old.moves moves n counted h.moves, ap (take r kind k.number k.from k.to xs) (sym there) ∙ misfit r kind k.number k.from k.to xs vs other)

    pub takes : (vs : List Value) (m : Entries) (boxes : Full) → Some vs ≡ get old.boxes k → are_of_kinds kind xs vs ≡ true → value_in m ≡ stored (value_in old.store) k.to xs vs → boxes ≡ without_full k old.boxes →
        Goes choices old (record old { store = m; boxes = boxes; moves = moves }) (λ r. take r kind k.number k.from k.to xs (r.box k.number k.from k.to))
    takes vs m boxes there fit done emptied = λ n h.
        let r = run_of choices n old in
        let now : box_in boxes ≡ with_box k.number k.from k.to None (box_in old.boxes) = ap box_in emptied ∙ no_box old.boxes k in (
          n + 1,
          record { moves = one_more old.moves moves n counted h.moves; asked = h.asked },
          ap (take r kind k.number k.from k.to xs) (sym there) ∙ taken r kind k.number k.from k.to xs vs fit
              ∙ (λ i. Ok record r { store = sym done i; box = sym now i; moves = n + 1 }),
        )

-- lists of two lengths don't fit
pub unequal_kinds : (kind : Name → Option Kind) (xs : List Name) (vs : List Value) → length xs ≢ length vs → are_of_kinds kind xs vs ≡ false
unequal_kinds kind [] [] h = absurd (h refl)
unequal_kinds kind [] (v ∷ vs) h = refl
unequal_kinds kind (x ∷ xs) [] h = refl
unequal_kinds kind (x ∷ xs) (v ∷ vs) h = ap (λ b. is_of_kind (kind x) v && b) (unequal_kinds kind xs vs (λ e. h (omega (arith, e)))) ∙ and-false (is_of_kind (kind x) v)
