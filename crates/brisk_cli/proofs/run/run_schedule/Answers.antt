use Rattle.std.proofs.Common.{inr}
use Rattle.brisk_async.specs.States.{state_of}
use Rattle.brisk_cli.proofs.run.run_schedule.Goals as goal

pub returns-in-Ok-play : goal.returns-in-Ok-play
returns-in-Ok-play c =
    inr (record {
      schedule = c.in-Ok.schedule;
      fits = c.in-Ok.ensures.ok;
      is_text = c.in-Ok.ensures.text;
      how = c.in-Ok-play.played.ended;
      state = state_of c.in-Ok-play.played.machine;
      ends = c.in-Ok-play.ensures.ends;
      tells = c.in_ok-print_played-in-Ok-play.ensures;
      is_status = c.status.ensures;
    })
