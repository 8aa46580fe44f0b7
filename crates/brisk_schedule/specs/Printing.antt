-- The texts of how a schedule ended and of a store.
use Rattle.std.specs.Prelude.{◌≡◌, ℕ, Bool, List, [], ◌++◌, map, flat_map, Option, codes}
use Rattle.std.specs.Fmt.{decimal}
use Rattle.std.specs.List.{range_with_len}
use Rattle.brisk_values.specs.declared.value.Pid.{Pid}
use Rattle.brisk_values.specs.declared.value.Value.{Value}
use Rattle.brisk_values.specs.Names.{Name, member}
use Rattle.brisk_syntax.specs.declared.program.Program.{Program}
use Rattle.brisk_syntax.specs.Declarations.{variable_of}
use Rattle.brisk_syntax.specs.Roles.{RoleText}
use Rattle.brisk_syntax.specs.Syntax.{Code, done, ◌⨾◌}
use Rattle.brisk_syntax.specs.Typing.{is_set}
use Rattle.brisk_syntax.specs.Value.{or_false}
use Rattle.brisk_instance.specs.Begun.{members_of}
use Rattle.brisk_text.specs.Values.{Text, value_text}
use Rattle.brisk_print.specs.Layout.{head}
use Rattle.brisk_lines.specs.Lines.{process_text}
use Rattle.brisk_async.specs.declared.fault.StepFault.{StepFault}
use Rattle.brisk_async.specs.declared.fault.StepFault.TheVariants as fault
use Rattle.brisk_async.specs.declared.queue.Queue.{Queue}
use Rattle.brisk_async.specs.InOrder.{AreQueues}
use Rattle.brisk_async.specs.Machine.{State}
use Rattle.brisk_schedule.specs.declared.played.Ended.{Ended}
use Rattle.brisk_schedule.specs.declared.played.Ended.TheVariants.{Halted, Deadlocked, Running, Refused}
use Rattle.brisk_schedule.specs.Texts.{process_of}

-- a process: a member of a set with its number, and a single role by its name
unfoldable pub shown : Bool → Pid → Text
shown many p = process_text (process_of many p)

-- the name of a fault
abbrev pub why_text : StepFault → Text
why_text fault.NoProcess = codes "NoProcess"
why_text fault.Finished = codes "Finished"
why_text fault.NeedsSender = codes "NeedsSender"
why_text fault.TakesNoSender = codes "TakesNoSender"
why_text fault.NoSuchSender = codes "NoSuchSender"
why_text fault.NeedsPlace = codes "NeedsPlace"
why_text fault.TakesNoPlace = codes "TakesNoPlace"
why_text fault.Blocked = codes "Blocked"
why_text fault.NoSuchPlace = codes "NoSuchPlace"
why_text fault.NoMemory = codes "NoMemory"

-- how a schedule ended
abbrev pub ended_text : Ended → Text
ended_text Halted = codes "halted\n"
ended_text Deadlocked = codes "deadlocked\n"
ended_text Running = codes "running\n"
ended_text (Refused k why) = codes "refused " ++ decimal k ++ codes " " ++ why_text why ++ codes "\n"

-- the lines of so many members of a role, from one on
abbrev pub member_lines : (RoleText → Pid → Text) → RoleText → ℕ → ℕ → Text
member_lines lines r from count = flat_map (lines r) (map (member r.name) (range_with_len from count))

-- the lines of all processes of a role
abbrev pub role_lines : (Name → ℕ) → (RoleText → Pid → Text) → RoleText → Text
role_lines sizes lines r = member_lines lines r 0 (members_of sizes r)

-- the lines of all processes, in order of role and member
abbrev pub all_lines : (Name → ℕ) → (RoleText → Pid → Text) → List RoleText → Text
all_lines sizes lines roles = flat_map (role_lines sizes lines) roles

-- the line of a variable
abbrev pub variable_line : RoleText → Pid → Name → Value → Text
variable_line r p x v = shown r.many p ++ codes "." ++ x ++ codes " = " ++ value_text v ++ codes "\n"

-- the lines of a process's variables, in order of declaration; what has no value is shown as false
abbrev pub variable_lines : (Pid → Name → Option Value) → RoleText → Pid → Text
variable_lines store r p = flat_map (λ d. variable_line r p (variable_of d) (or_false (store p (variable_of d)))) r.decls

-- a store, by role, member and declaration
abbrev pub store_text : (Name → ℕ) → List RoleText → (Pid → Name → Option Value) → Text
store_text sizes roles store = all_lines sizes (variable_lines store) roles

-- the line of what is left of a process's code, if something is
abbrev pub left_line : RoleText → Pid → Code → Text
left_line r p done = []
left_line r p (s ⨾ rest) = codes "left " ++ shown r.many p ++ codes ": " ++ head s ++ codes "\n"

-- the same, from the code of each process
abbrev pub left_lines : (Pid → Code) → RoleText → Pid → Text
left_lines code r p = left_line r p (code p)

-- what the processes have left to do, by role and member
abbrev pub left_text : (Name → ℕ) → List RoleText → (Pid → Code) → Text
left_text sizes roles code = all_lines sizes (left_lines code) roles

-- a process, of which its role says how it is written
unfoldable pub named_text : List RoleText → Pid → Text
named_text roles p = shown (is_set roles p.role) p

-- the sender and the receiver of a queue
unfoldable pub ends_text : List RoleText → Queue → Text
ends_text roles q = codes "mail " ++ named_text roles q.from ++ codes " to " ++ named_text roles q.to

-- the line of a queue
abbrev pub queue_line : List RoleText → Queue → Text
queue_line roles q = ends_text roles q ++ codes " " ++ q.channel ++ codes " " ++ decimal q.length ++ codes "\n"

-- what `run` answers for a state: how it ended, the store, what is left to do, and the queues that aren't empty, in order
abbrev pub played_text : Program → Ended → State → List Queue → Text
played_text P ended s qs =
    ended_text ended ++ store_text s.sizes P.roles s.store ++ left_text s.sizes P.roles s.code ++ flat_map (queue_line P.roles) qs

-- the bytes are this text
abbrev pub IsPlayedText : Program → Ended → State → List ℕ → Type 0
IsPlayedText P ended s text = (qs : List Queue) × AreQueues P s.mail qs × (text ≡ played_text P ended s qs)

-- the text that `order` answers where a sequential program halts
abbrev pub order_text : (Name → ℕ) → List RoleText → (Pid → Name → Option Value) → Text
order_text sizes roles store = codes "halted\n" ++ store_text sizes roles store
