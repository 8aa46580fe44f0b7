use Rattle.std.proofs.Common.{inr, refl}
use Rattle.brisk_values.specs.Places.{value_in}
use Rattle.brisk_instance.specs.Given.{instance_of}
use Rattle.brisk_seq.specs.Sequential.{seq}
use Rattle.brisk_syntax.specs.Value.{size_in}
use Rattle.brisk_cli.specs.declared.status.Status.TheVariants.{Done}
use Rattle.brisk_cli.proofs.Ordered.{halted, not_heavy, not_unfit, stops}
use Rattle.brisk_cli.proofs.order.run_choices.Goals as goal

pub returns-in-Ok-run : goal.returns-in-Ok-run
returns-in-Ok-run c =
    let Q = c.args.program.now in
    let choices = c.in-Ok.choices in
    let i = instance_of choices.instance in
    inr (record {
      choices = choices;
      fits = c.in-Ok.ensures.ok;
      is_text = c.in-Ok.ensures.text;
      tells = halted (size_in choices.instance.sizes) Q.roles (seq Q i choices.picks choices.turns) (value_in c.in-Ok-run.store) Done c.in_ok-print_store-in-Ok-run.field-0.items (rw c.picks.ensures at c.in-Ok-run.ensures.ok.1) refl c.in_ok-print_store-in-Ok-run.ensures;
    })

pub stop_answer-requires-clause-fits : goal.stop_answer-requires-clause-fits
stop_answer-requires-clause-fits c =
    not_unfit c.args.program.now c.in-Ok.choices.instance c.picks.result.now c.in-Ok.choices.turns c.in-Err-run.fault c.in-Ok.ensures.ok.ready.0 c.in-Err-run.ensures.err

pub returns : goal.returns
returns c =
    let Q = c.args.program.now in
    let choices = c.in-Ok.choices in
    let i = instance_of choices.instance in
    let fault = c.in-Err-run.fault in
    let ready = c.in-Ok.ensures.ok.ready in
    let cause = c.in-Err-run.ensures.err in
    let told = stops Q choices.instance c.picks.result.now choices.turns fault (not_unfit Q choices.instance c.picks.result.now choices.turns fault ready.0 cause) (not_heavy Q choices.instance c.picks.result.now choices.turns fault ready.1 cause) cause in
    inr (record {
      choices = choices;
      fits = c.in-Ok.ensures.ok;
      is_text = c.in-Ok.ensures.text;
      tells = c.in_ok-stop_answer-in-Err-run.ensures (size_in choices.instance.sizes) Q.roles (seq Q i choices.picks choices.turns) (rw c.picks.ensures at told);
    })
