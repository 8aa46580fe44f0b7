use Rattle.std.proofs.Common.{List, refl, ap, sym, ◌∙◌}
use Rattle.std.specs.Prelude.{is_some}
use Rattle.std.specs.FinMap as map
use Rattle.brisk_values.specs.Names.{Name}
use Rattle.brisk_syntax.specs.Declarations.{role_named}
use Rattle.brisk_syntax.specs.Instance.{role_of}
use Rattle.brisk_syntax.specs.Segments.{or_done}
use Rattle.brisk_syntax.specs.Value.{size_in}
use Rattle.brisk_syntax.specs.declared.program.Program.{Program}
use Rattle.brisk_instance.specs.Given.{instance_of}
use Rattle.brisk_async.specs.States.{is_process}
use Rattle.brisk_instance.proofs.Apart.{program_apart}
use Rattle.brisk_instance.proofs.Started.{started_sizes}
use Rattle.brisk_async.proofs.Started.{started_code, started_codes, started_process}
use Rattle.brisk_async.proofs.machine.Machine.begin.Goals as goal

pub invariant_of-result : goal.invariant_of-result
invariant_of-result c p =
    let P = c.args.program.now in let g = c.args.instance.now in let i = instance_of g in
    ap (λ m. is_some (map.get m p)) c.in_ok-codes.ensures
    ∙ ap is_some (started_codes i P.roles ((program_apart P c.requires.typed).names) p)
    ∙ started_process i p.member (role_named P.roles p.role)
    ∙ sym (ap (λ (q : Program). is_process q (size_in c.in_ok-copy_sizes.field-0) p) c.in_ok-copy_program.ensures ∙ ap (λ (s : List (Name × _)). is_process P (size_in s) p) c.in_ok-copy_sizes.ensures)

pub returns : goal.returns
returns c =
    let P = c.args.program.now in let g = c.args.instance.now in let i = instance_of g in
    let differ = (program_apart P c.requires.typed).names in
    λ j. record {
      program = c.in_ok-copy_program.ensures j;
      sizes = λ s. (ap (λ e. size_in e s) c.in_ok-copy_sizes.ensures ∙ started_sizes i P.roles g.sizes differ c.requires.fits.sizes refl s) j;
      code = λ p. (ap (λ m. or_done (map.get m p)) c.in_ok-codes.ensures ∙ ap or_done (started_codes i P.roles differ p) ∙ started_code (role_of P.roles i p)) j;
      store = λ q y. c.in_ok-store.ensures q y j;
      mail = c.new.ensures j;
    }

pub start_store-requires : goal.start_store-requires
start_store-requires c = program_apart c.args.program.now c.requires.typed
