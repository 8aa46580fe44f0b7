use Rattle.std.proofs.Common.{◌≡◌, refl, ap, ◌∙◌, IsSome}
use Rattle.std.specs.Prelude.{is_some, option_and_then}
use Rattle.std.specs.FinMap as map
use Rattle.brisk_syntax.specs.Segments.{head_of}
use Rattle.brisk_syntax.specs.Syntax.{Code, done}
use Rattle.brisk_syntax.specs.Value.{size_in}
use Rattle.brisk_async.specs.declared.effect.Change.{Change}
use Rattle.brisk_async.specs.declared.effect.Change.TheVariants.{Nothing, Stores, Sends, Takes}
use Rattle.brisk_async.specs.Acts.{effect_of, effect_with}
use Rattle.brisk_async.specs.Effects.{next_of}
use Rattle.brisk_async.specs.Keys.{code_in_map}
use Rattle.brisk_async.specs.Machine.{Effect, after}
use Rattle.brisk_async.specs.States.{Kept, state_of}
use Rattle.brisk_async.proofs.Maps.{keys_stay, one_code, there_of_head}
use Rattle.brisk_async.proofs.machine.Machine.apply.Goals as goal

abbrev parts : Code → Change → Effect
parts n x = record { next = n; variables = (effect_with done x).variables; values = (effect_with done x).values; mail = (effect_with done x).mail }

effect_parts : (n : Code) (x : Change) → parts n x ≡ effect_with n x
effect_parts n Nothing = refl
effect_parts n (Stores y v) = refl
effect_parts n (Sends k m) = refl
effect_parts n (Takes k j xs m) = refl

pub invariant_of-self-2 : goal.invariant_of-self-2
invariant_of-self-2 c = λ r.
    let p = c.args.process.now in let m = c.self.inside in
    let head : IsSome (option_and_then head_of (map.get m.codes p)) = ap (λ k. is_some (option_and_then head_of (map.get k.codes p))) c.self.view_is ∙ c.requires in
    ap (λ d. is_some (map.get d r)) c.put.ensures ∙ keys_stay m.codes p _ (there_of_head (map.get m.codes p) head) r ∙ c.self.invariant r

pub returns-clause-ok : goal.returns-clause-ok
returns-clause-ok c =
    let p = c.args.process.now in let m = c.self.inside in let act = c.args.act in
    let next = next_of act.next (code_in_map m.codes p) in
    let code = ap code_in_map c.put.ensures ∙ one_code m.codes p next in
    let before : Kept = record { program = m.program; sizes = m.sizes; codes = m.codes; store = m.store; mail = m.mail } in
    let moved : state_of record { program = m.program; sizes = m.sizes; codes = c.put.new.self; store = c.make_change.new.store; mail = c.make_change.new.mail } ≡ after (state_of before) p (parts next act.change) =
    λ i. record { program = m.program; sizes = size_in m.sizes; code = code i; store = c.in_ok-make_change.ensures.stored i; mail = c.in_ok-make_change.ensures.sent i } in
    moved
    ∙ ap (after (state_of before) p) (effect_parts next act.change)
    ∙ ap (λ k. after (state_of k) p (effect_of (code_in_map k.codes p) act)) c.self.view_is
