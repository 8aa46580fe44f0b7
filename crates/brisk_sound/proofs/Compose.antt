-- Sound steps, one after the other.
use Rattle.std.proofs.Common.{◌≡◌, List, ◌++◌, sym, ◌∙◌, subst, Option}
use Rattle.brisk_values.specs.declared.value.Pid.{Pid}
use Rattle.brisk_values.specs.Names.{Name}
use Rattle.brisk_syntax.specs.Syntax.{Code}
use Rattle.brisk_seq.specs.Sequential.{Focus}
use Rattle.brisk_async.specs.declared.event.Event.{Event}
use Rattle.brisk_state.specs.declared.thread.Mode.{Mode}
use Rattle.brisk_sound.specs.Does as seq
use Rattle.brisk_sound.specs.Does.{Mem, Does}
use Rattle.brisk_sound.proofs.Fits.{World, Conf, mem, Picks, Still}
use Rattle.brisk_sound.proofs.Leads.{rest-append, runs-append}
use Rattle.brisk_rules.proofs.Readings.{Reading}
use Rattle.brisk_sound.proofs.Sound.{Typing, Sound, Arrives}

pub still_then : (world : World) (mode : Name → Option Mode) (φ : Focus) (c d e : Conf) → Still world mode φ c d → Still world mode φ d e → Still world mode φ c e
still_then world mode φ c d e a b = record {
  code = λ p h. b.code p h ∙ a.code p h;
  store = λ p h. b.store p h ∙ a.store p h;
  sent = λ p q h C. b.sent p q h C ∙ a.sent p q h C;
  got = λ p q h C. b.got p q h C ∙ a.got p q h C;
  box_sent = λ p q h n. b.box_sent p q h n ∙ a.box_sent p q h n;
  box_got = λ p q h n. b.box_got p q h n ∙ a.box_got p q h n;
}

module _ (world : World) (T : Typing world) where
  pub arrives_then : (S S' S'' : Reading) → S'.mode ≡ S.mode → (κ : Pid → Code) (φ : Focus) (c d e : Conf) (t u : List Event) → Arrives world S S' κ φ c d t → Arrives world S' S'' κ φ d e u → Arrives world S S'' κ φ c e (t ++ u)
  arrives_then S S' S'' modes κ φ c d e t u a b = record {
    runs = runs-append world c d e t u a.runs b.runs;
    fits = b.fits;
    still = still_then world S.mode φ c d e a.still (subst (λ (m : Name → Option Mode). Still world m φ d e) modes b.still);
  }

  pub sound_then : (S : Reading) (R : Does) (S' : Reading) (Q : Does) (S'' : Reading) → S'.mode ≡ S.mode → Sound world T S R S' → Sound world T S' Q S'' → Sound world T S (seq.◌andthen◌ R Q) S''
  sound_then S R S' Q S'' modes a b = record {
    there = λ κ φ c typed beyond picks f m r.
        let x = a.there κ φ c typed beyond picks f r.0 r.1 in
        let y = b.there κ φ x.0 (T.runs c x.0 x.2 typed x.3.runs) beyond (subst (λ (m : Name → Option Mode). Picks m φ) (sym modes) picks) x.3.fits m (subst (λ (l : Mem). Q φ l m) (sym x.1) r.2) in
        (y.0, y.1, x.2 ++ y.2, arrives_then S S' S'' modes κ φ c x.0 y.0 x.2 y.2 x.3 y.3);
    back = λ κ φ c typed beyond picks f s z r end.
        let x = a.back κ φ c typed beyond picks f s z r end in
        let y = b.back κ φ x.0 (T.runs c x.0 x.2 typed x.3.runs) beyond (subst (λ (m : Name → Option Mode). Picks m φ) (sym modes) picks) x.3.fits x.4.left z x.4.ends end in
        (y.0, (mem x.0, x.1, y.1), x.2 ++ y.2, arrives_then S S' S'' modes κ φ c x.0 y.0 x.2 y.2 x.3 y.3, rest-append world x.0 y.0 x.2 y.2 s z x.4 y.4);
  }
