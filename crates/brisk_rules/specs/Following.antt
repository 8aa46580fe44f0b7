-- What follows the code of each thread in a premise, and what basic rules ask of senders on loose channels.
use Rattle.std.specs.Prelude.{List, [], ◌∷◌, Option, Some, None, length, if◌then◌else◌, nat_le, Bool}
use Rattle.std.specs.List.{list_any}
use Rattle.brisk_values.specs.Names.{Name, same_name}
use Rattle.brisk_syntax.specs.declared.program.Program.{Program}
use Rattle.brisk_syntax.specs.Declarations.{is_loose}
use Rattle.brisk_syntax.specs.Syntax.{Code, done, ◌⨾◌}
use Rattle.brisk_state.specs.Symbolic.{key, Symbolic, thread_named, numbers_at}
use Rattle.brisk_basic.specs.declared.rule.Basic.{Basic}
use Rattle.brisk_basic.specs.declared.rule.Basic.TheVariants as rule
use Rattle.brisk_quiet.specs.Sender.{Piece, sender_quiet}
use Rattle.brisk_derivation.specs.declared.fault.SideFault.{SideFault}
use Rattle.brisk_derivation.specs.declared.fault.SideFault.TheVariants.{ManyPending, SenderNotQuiet}
use Rattle.brisk_rules.specs.Rules.{Kind, For, Pick, Owner, Entered, code_in, is_quiet, unless, first_fault}

-- what follows the code of each thread, the innermost piece first
abbrev pub Follow : Type 0
Follow = Name → List Piece

-- nothing follows
abbrev pub nothing_follows : Follow
nothing_follows t = []

-- the sender is quiet, from this code on
abbrev pub quiet_from : Follow → Symbolic → Code → Name → Name → Name → Option SideFault
quiet_from F S code t u c = unless (is_quiet (sender_quiet S code (F t) t u c)) SenderNotQuiet

-- the code after the first statement
abbrev pub behind_head : Code → Code
behind_head done = done
behind_head (x ⨾ rest) = rest

-- what a basic rule asks besides, on a loose channel: a take asks that one message pends, and it and a pass that the sender is quiet
abbrev pub loose_fault : Program → Follow → Symbolic → Basic → Option SideFault
loose_fault P F S (rule.Take t u c) =
    if is_loose P.channels c
    then first_fault (unless (nat_le (length (numbers_at S.pending (key t u c))) 1) ManyPending ∷ quiet_from F S (code_in (thread_named S.threads t)) t u c ∷ [])
    else None
loose_fault P F S (rule.Pass t u c) =
    if is_loose P.channels c then quiet_from F S (behind_head (code_in (thread_named S.threads t))) t u c else None
loose_fault P F S b = None

-- the piece that a rule puts before what follows its owner, from the owner's code at the entry
abbrev pub piece_of : Kind → Code → Piece
piece_of (For s) code = record { mark = Some s; code = code }
piece_of (Pick s) code = record { mark = None; code = behind_head code }
piece_of kind code = record { mark = None; code = code }

-- the name is that of an owner
abbrev pub is_owner : List Owner → Name → Bool
is_owner owners u = list_any (λ o. same_name u o.name) owners

-- what follows in the premise of a rule that was entered in the state S
abbrev pub follows_in : Symbolic → Entered → Follow → Follow
follows_in S r F u = if is_owner r.owners u then piece_of r.kind (code_in (thread_named S.threads u)) ∷ F u else F u
