use Rattle.brisk_instance.proofs.Apart.{program_apart}
use Rattle.brisk_process_tests.proofs.instances.each_member_starts_with_its_values.Goals as goal

pub start_store-requires : goal.start_store-requires
start_store-requires g c = program_apart c.in_ok-program.program c.in_ok-program.ensures.typed
