-- A program, or a sequential one, is noted part by part.
use Rattle.std.proofs.Common.{◌≡◌, ℕ, List, [], map, Option, None, refl, ap, ◌∙◌}
use Rattle.brisk_seq.specs.declared.tree.SeqProgram.{SeqProgram}
use Rattle.brisk_values.specs.Names.{Name}
use Rattle.brisk_syntax.specs.declared.program.Program.{Program}
use Rattle.brisk_types.specs.declared.fault.Failure.{Failure}
use Rattle.brisk_types.specs.Declarations.{placed, channels_at, roles_at, meaning, apart, enumerations, channels, roles, failures}
use Rattle.brisk_types.specs.Expressions.{Meaning}
use Rattle.brisk_types.specs.Failures.{note_all}
use Rattle.brisk_types.specs.Names.{global_meaning, named, named_meanings}
use Rattle.brisk_types.specs.Sequences.{Meanings, outline, behind_role, meanings, outlines, items, items_at, seq_failures}
use Rattle.brisk_types.specs.declared.names.Globals.{Globals}
use Rattle.brisk_types.proofs.Named.{named_role}

pub whole : (P : Program) (m : Name → Meaning) (a b : ℕ) (o p q r : Option Failure) → m ≡ meaning P → a ≡ channels_at P → b ≡ roles_at P
    → o ≡ note_all None (apart [] (placed P)) → p ≡ note_all o (enumerations 0 P.enums) → q ≡ note_all p (channels (m []).is_enum a P.channels) → r ≡ note_all q (roles m b P.roles)
    → r ≡ note_all None (failures P)
whole P m a b o p q r em ea eb eo ep eq er =
    let enums = ep ∙ (λ i. note_all (eo i) (enumerations 0 P.enums)) in
    let chans = eq ∙ (λ i. note_all (enums i) (channels (em i []).is_enum (ea i) P.channels)) in
    er ∙ (λ i. note_all (chans i) (roles (em i) (eb i) P.roles))

-- what the indexes say of the items of a sequential program
pub meanings_are : (Q : SeqProgram) (globals : Globals) (ms : List Meaning) → global_meaning globals ≡ meaning (outline Q) → ms ≡ map (behind_role (global_meaning globals)) Q.roles
    → named_meanings globals ms ≡ meanings Q
meanings_are Q globals ms eg em = λ i. record {
  is_set = (eg i []).is_set;
  is_single = (eg i []).is_single;
  meaning_at = λ p. (ap (λ ms. named ms p) em ∙ ap (λ g. named (map (behind_role g) Q.roles) p) eg ∙ named_role (meaning (outline Q)) (λ n. refl) Q.roles p) i;
}

pub whole_sequence : (Q : SeqProgram) (g : Name → Meaning) (m : Meanings) (a b : ℕ) (o p q r : Option Failure) → g ≡ meaning (outline Q) → m ≡ meanings Q → a ≡ roles_at (outline Q) → b ≡ items_at Q
    → o ≡ note_all None (apart [] (placed (outline Q))) → p ≡ note_all o (enumerations 0 Q.enums) → q ≡ note_all p (outlines g a Q.roles) → r ≡ note_all q (items m [] b Q.body)
    → r ≡ note_all None (seq_failures Q)
whole_sequence Q g m a b o p q r eg em ea eb eo ep eq er =
    let enums = ep ∙ (λ i. note_all (eo i) (enumerations 0 Q.enums)) in
    let outs = eq ∙ (λ i. note_all (enums i) (outlines (eg i) (ea i) Q.roles)) in
    er ∙ (λ i. note_all (outs i) (items (em i) [] (eb i) Q.body))
