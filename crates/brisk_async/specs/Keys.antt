-- The maps of a machine, and how they are kept.
use Rattle.std.specs.Prelude.{List, []}
use Rattle.std.specs.Prelude.{Option, Some, None}
use Rattle.std.specs.declared.cmp.Ordering.{Ordering}
use Rattle.std.specs.Ordering.{nat_cmp, ordering_then}
use Rattle.std.specs.Cmp.Lexicographic.{slice_cmp}
use Rattle.std.specs.Coded.{Coded, coded_list}
use Rattle.std.specs.FinMap.{FinMap, get, code}
use Rattle.brisk_values.specs.declared.value.Pid.{Pid}
use Rattle.brisk_values.specs.Places.{process_cmp, coded_process, coded_value}
use Rattle.brisk_syntax.specs.Syntax.{Code}
use Rattle.brisk_syntax.specs.Segments.{or_done}
use Rattle.brisk_syntax.specs.Stored.{coded_code}
use Rattle.brisk_async.specs.declared.mail.Key.{Key}
use Rattle.brisk_async.specs.contracts.mail.Key as key
use Rattle.brisk_async.specs.Machine.{Queue, Payload, Mail}

-- by sender, then by receiver, and then by channel
abbrev pub key_cmp : Key → Key → Ordering
key_cmp a b = ordering_then (process_cmp a.from b.from) (ordering_then (process_cmp a.to b.to) (slice_cmp nat_cmp a.channel b.channel))

-- the queue of a key
abbrev pub queue_of : Key → Queue
queue_of k = record { from = k.from; to = k.to; channel = k.channel }

-- the key of a queue
abbrev pub key_of : Queue → Key
key_of q = record { from = q.from; to = q.to; channel = q.channel }

-- the queues that were used
abbrev pub Queues : Type 0
Queues = FinMap key_cmp (List Payload)

abbrev pub coded_queues : Coded Queues
coded_queues = code key.the_row.coded (coded_list (coded_list coded_value))

-- the code of each process of an instance
abbrev pub Processes : Type 0
Processes = FinMap process_cmp Code

abbrev pub coded_processes : Coded Processes
coded_processes = code coded_process coded_code

-- the payloads of an option, and none of none
abbrev pub or_nil : Option (List Payload) → List Payload
or_nil None = []
or_nil (Some ms) = ms

-- the mail of the queues that were used: the others are empty
abbrev pub mail_in : Queues → Mail
mail_in m q = or_nil (get m (key_of q))

-- each process's code, which is empty where there is no such process
abbrev pub code_in_map : Processes → Pid → Code
code_in_map m p = or_done (get m p)
