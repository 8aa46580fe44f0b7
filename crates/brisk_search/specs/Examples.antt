-- What the search finds in small programs.
use Rattle.std.specs.Prelude.{◌≡◌, ℕ, false, [], ◌∷◌, ◌++◌, map, Option, Some, None}
use Rattle.brisk_syntax.specs.declared.program.Program.{Program}
use Rattle.brisk_seq.specs.declared.tree.SeqProgram.{SeqProgram}
use Rattle.brisk_derivation.specs.declared.fault.SideFault.TheVariants as side
use Rattle.brisk_derivation.specs.Reports.{Tried, Fails, StuckFirst, Tries, no_tries, ◌▹◌}
use Rattle.brisk_derivation.specs.Steps.{Branch, While, For, Repeat, Gather, Pick, Steps, no_steps, ◌▷◌}
use Rattle.brisk_sound.specs.Derivations.{assign, fill, pass, take, known, fact, late_box_steps, ask_all_by, collect_steps}
use Rattle.brisk_rules.specs.Derives.{sequential}
use Rattle.brisk_sound.specs.Samples.{A, B, M, Ws, T, Ping, Pong, Ready, Task, v, x, k, t, ping_pong, ping_pong_in_order, two_messages, crossed, collect, collect_in_order, maybe_empty_server}
use Rattle.brisk_sound.specs.Protocols.{H, s, u, z, late_box, late_box_items, ask_all, ask_all_items, overtaking, unread, endless_sender, nested_for, one_sided}
use Rattle.brisk_search.specs.Drives as drive
use Rattle.brisk_search.specs.Drives.{Driven}
use Rattle.brisk_search.specs.Programs.{C, Ps, Go, More, Prepare, Cast, Decide, Ack, ok, task_server, two_phase_commit, correlated, links, chain}
use Rattle.brisk_search.specs.Searched.{Searched, Sequenced, Stuck, Spent, passes, searched}

-- the steps of what is answered, where the program is sequenced
abbrev steps_of : Searched → Option Steps
steps_of (Sequenced D Q) = Some D
steps_of answer = None

-- the search sequences the program by these steps
abbrev pub Finds : Program → ℕ → Steps → Type 0
Finds P budget D = steps_of (searched P budget) ≡ Some D

-- and as this program
abbrev pub Gives : Program → ℕ → Steps → SeqProgram → Type 0
Gives P budget D Q = searched P budget ≡ Sequenced D Q

-- the search is stuck after these steps, with these tries
abbrev pub Stops : Program → ℕ → Steps → Tries → Type 0
Stops P budget D tries = searched P budget ≡ Stuck record { steps = D; tries = tries }

-- the rules that are left at the end
abbrev left_of : Driven → Option ℕ
left_of (drive.Reached w left) = left
left_of (drive.Stuck w tries left) = left
left_of drive.Spent = Some 0

-- of 1,000 rules so many are left, where they are counted
abbrev pub Leaves : Program → ℕ → Type 0
Leaves P m = left_of (passes false P 1000) ≡ Some m

-- what the search finds
pub record Found : Type 0 where
  -- straight programs, which have no budget
  pub ping_pong_found : Gives ping_pong 0 (pass A B Ping ▷ pass B A Pong ▷ no_steps) ping_pong_in_order
  pub ping_pong_rules : Leaves ping_pong 998
  pub late_box_found : Gives late_box 0 late_box_steps (sequential late_box late_box_items)
  pub late_box_rules : Leaves late_box 996
  pub two_messages_found : Finds two_messages 0 (pass A B T ▷ pass A B T ▷ no_steps)
  pub unread_found : Finds unread 0 (fill A B T 1 ▷ no_steps)
  pub crossed_stops : Stops crossed 0 no_steps no_tries
  -- stars, which have none either
  pub collect_found : Gives collect 0 collect_steps collect_in_order
  pub ask_all_found : Gives ask_all 0 (ask_all_by (H ∷ []) (fact H s ∷ fact H x ∷ []) (assign H ▷ no_steps)) (sequential ask_all ask_all_items)
  -- the close of a gather, a close that loses facts and the last close
  pub ask_all_rules : Leaves ask_all 993
  pub two_phase_commit_found : Finds two_phase_commit 0 (
      For Ps (C ∷ []) [] (pass C Ps Prepare ▷ no_steps)
      ▷ Gather C (fact C v ∷ fact C ok ∷ []) (pass Ps C Cast ▷ Branch C (assign C ▷ no_steps) no_steps ▷ no_steps)
      ▷ Branch C (assign C ▷ no_steps) no_steps
      ▷ For Ps (C ∷ []) [] (pass C Ps Decide ▷ no_steps)
      ▷ Gather C [] (Branch Ps (assign Ps ▷ no_steps) no_steps ▷ pass Ps C Ack ▷ no_steps)
      ▷ no_steps
      )
  pub two_phase_commit_rules : Leaves two_phase_commit 983
  pub overtaking_stops : Stops overtaking 0 (For Ws [] [] (fill Ws M T 1 ▷ fill Ws M T 2 ▷ no_steps) ▷ no_steps) (
      Tried (Repeat M [] no_steps) (StuckFirst (Tried (Pick M [] no_steps) (Fails side.MayBeEmpty) ▹ no_tries)) ▹ no_tries
      )
  -- a loop with a pick in it, and a gather; with one rule less it isn't found
  pub task_server_found : Finds task_server 39 (
      While M (fact M k ∷ fact Ws t ∷ []) (Pick M [] (known Ws ▷ pass Ws M Ready ▷ pass M Ws Task ▷ assign M ▷ no_steps) ▷ no_steps)
      ▷ Gather M [] (known Ws ▷ pass Ws M Ready ▷ pass M Ws Task ▷ known Ws ▷ no_steps)
      ▷ no_steps
      )
  pub task_server_spent : searched task_server 38 ≡ Spent
  pub maybe_empty_server_stops : Stops maybe_empty_server 1000 no_steps (
      Tried (While M [] no_steps) (StuckFirst (Tried (Pick M [] no_steps) (Fails side.MayBeEmpty) ▹ no_tries))
      ▹ Tried (For Ws [] [] (known Ws ▷ fill Ws M Ready 1 ▷ no_steps)) (
      StuckFirst (Tried (While M [] no_steps) (StuckFirst (Tried (Pick M [] no_steps) (Fails side.SetIsFocused) ▹ no_tries)) ▹ no_tries)
      )
      ▹ no_tries
      )
  pub nested_for_stops : Stops nested_for 1000 no_steps (
      Tried (For Ws (M ∷ []) [] no_steps) (StuckFirst (Tried (For Ws (M ∷ []) [] no_steps) (Fails side.SetIsFocused) ▹ no_tries)) ▹ no_tries
      )
  -- sides that differ
  pub one_sided_stops : Stops one_sided 1000 no_steps (Tried (Branch A (fill A B T 1 ▷ no_steps) no_steps) (Fails side.BranchesDiffer) ▹ no_tries)
  -- found in pass two
  pub correlated_found : Finds correlated 13 (
      Branch A (pass A B Go ▷ fill A B More 1 ▷ known B ▷ take A B More ▷ no_steps) (pass A B Go ▷ known B ▷ no_steps) ▷ no_steps
      )
  -- found by the ninth try
  pub chain_found : Finds chain 84 (
      While A (map (fact A) links ++ fact A z ∷ fact A u ∷ []) (
      assign A ▷ assign A ▷ assign A ▷ assign A ▷ assign A ▷ assign A ▷ assign A ▷ assign A ▷ assign A ▷ no_steps
      )
      ▷ Branch A (assign A ▷ no_steps) no_steps
      ▷ no_steps
      )
  -- each turn of the loop takes three rules
  pub endless_sender_spent : searched endless_sender 40 ≡ Spent
