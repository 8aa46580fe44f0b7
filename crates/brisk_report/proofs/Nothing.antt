-- Where no message pends, nothing is written.
use Rattle.std.proofs.Common.{◌≡◌, true, ◌==◌, List, [], ◌∷◌, ◌++◌, length, refl, ap, ◌∙◌, append-nil, sym}
use Rattle.std.proofs.lemmas.Bool.{eqb-true}
use Rattle.std.proofs.lemmas.List.{nil_from_length}
use Rattle.std.specs.Prelude.{flat_map}
use Rattle.brisk_syntax.specs.declared.program.Channel.{Channel}
use Rattle.brisk_syntax.specs.declared.program.Program.{Program}
use Rattle.brisk_syntax.specs.Roles.{RoleText}
use Rattle.brisk_text.specs.Values.{Text}
use Rattle.brisk_state.specs.declared.pending.Pending.{Pending}
use Rattle.brisk_report.specs.Printing.{channel_text, channels_text, receiver_text, receivers_text}

none_on : (cs : List Channel) → flat_map (λ c. channel_text [] c.name) cs ≡ []
none_on [] = refl
none_on (c ∷ cs) = none_on cs

none_for : (P : Program) (rs : List RoleText) → flat_map (λ r. receiver_text P [] r.name) rs ≡ []
none_for P [] = refl
none_for P (r ∷ rs) = ap (λ z. z ++ flat_map (λ r. receiver_text P [] r.name) rs) (none_on P.channels) ∙ none_for P rs

nothing : (ms : List Pending) (text : List Pending → Text) (out : Text) → true ≡ (length ms == 0) → text [] ≡ [] → out ≡ out ++ text ms
nothing ms text out e none = sym (append-nil out) ∙ ap (λ z. out ++ z) (sym (ap text (nil_from_length ms (eqb-true (length ms) 0 (sym e))) ∙ none))

pub no_channels : (P : Program) (ms : List Pending) (out : Text) → true ≡ (length ms == 0) → out ≡ out ++ channels_text P ms
no_channels P ms out e = nothing ms (channels_text P) out e (none_on P.channels)

pub no_receivers : (P : Program) (ms : List Pending) (out : Text) → true ≡ (length ms == 0) → out ≡ out ++ receivers_text P ms
no_receivers P ms out e = nothing ms (receivers_text P) out e (none_for P P.roles)
