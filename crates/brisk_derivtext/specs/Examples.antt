-- What the definitions give on small texts.
use Rattle.std.specs.Prelude.{◌≡◌, [], ◌∷◌, ◌++◌, codes, List, Option, Some, None, refl, option_map}
use Rattle.std.specs.Fmt.{digits}
use Rattle.brisk_values.specs.Names.{Name}
use Rattle.brisk_derivation.specs.declared.steps.BasicStep.TheVariants.{Assign, Fill, Pass, Take, Known}
use Rattle.brisk_derivation.specs.declared.steps.Fact.{Fact}
use Rattle.brisk_derivation.specs.Steps.{Step, Basic, Branch, Steps, no_steps, ◌▷◌}
use Rattle.brisk_derivation.specs.Steps as tree
use Rattle.brisk_derivtext.specs.declared.line.Format.TheVariants.{Format1, Format2}
use Rattle.brisk_derivtext.specs.declared.line.Loop.TheVariants.{For}
use Rattle.brisk_derivtext.specs.declared.line.Line.{Line}
use Rattle.brisk_derivtext.specs.declared.line.Line.TheVariants.{Head, Plain, Fork, Enter, Else, Join, Close, End, Part, EndPart, Use}
use Rattle.brisk_derivtext.specs.Lines.{line_text}
use Rattle.brisk_derivtext.specs.Reading.{Reading, start, next}
use Rattle.brisk_derivtext.specs.Shared.{second_text}
use Rattle.brisk_derivtext.specs.Texts.{derivation_text, derivation_lines, text_of_lines}

abbrev A : Name
A = codes "A"

abbrev B : Name
B = codes "B"

abbrev T : Name
T = codes "T"

abbrev G : Name
G = codes "G"

abbrev H : Name
H = codes "H"

abbrev M : Name
M = codes "M"

abbrev Ws : Name
Ws = codes "Ws"

abbrev fact : Name → Name → Fact
fact t v = record { at = t; variable = v }

-- the derivation of late_box
abbrev late_box : Steps
late_box = Basic (Fill A B T 1) ▷ (Basic (Assign A) ▷ (Basic (Pass A B G) ▷ (Basic (Take A B T) ▷ no_steps)))

late_box_text : derivation_text late_box ≡ codes "brisk derivation 1\nfill A B T 1\nassign A\npass A B G\ntake A B T\nend\n"
unfolding digits
late_box_text = refl

-- the derivation of ask_all
abbrev ask_all : Steps
ask_all =
    tree.For Ws (H ∷ []) [] (Basic (Pass H Ws (codes "Ask")) ▷ no_steps)
    ▷ (tree.Gather H (fact H (codes "s") ∷ fact H (codes "x") ∷ []) (Basic (Pass Ws H (codes "Reply")) ▷ (Basic (Assign H) ▷ no_steps)) ▷ no_steps)

ask_all_text : derivation_text ask_all ≡ codes "brisk derivation 1\nfor Ws by H drop\npass H Ws Ask\nclose\ngather H drop H.s H.x\npass Ws H Reply\nassign H\nclose\nend\n"
ask_all_text = refl

-- the derivation of task_server
abbrev ready : Steps → Steps
ready rest = Basic (Known Ws) ▷ (Basic (Pass Ws M (codes "Ready")) ▷ (Basic (Pass M Ws (codes "Task")) ▷ rest))

abbrev task_server : Steps
task_server =
    tree.While M (fact M (codes "k") ∷ fact Ws (codes "t") ∷ []) (tree.Pick M [] (ready (Basic (Assign M) ▷ no_steps)) ▷ no_steps)
    ▷ (tree.Gather M [] (ready (Basic (Known Ws) ▷ no_steps)) ▷ no_steps)

task_server_text : derivation_text task_server ≡ codes "brisk derivation 1\nwhile M drop M.k Ws.t\npick M drop\nknown Ws\npass Ws M Ready\npass M Ws Task\nassign M\nclose\nclose\ngather M drop\nknown Ws\npass Ws M Ready\npass M Ws Task\nknown Ws\nclose\nend\n"
task_server_text = refl

-- owners named as the words of a line
by_and_drop : line_text (Enter (For (codes "by") (codes "by" ∷ codes "drop" ∷ []) [])) ≡ codes "for by by by drop drop"
by_and_drop = refl

-- what lines come to, the bound on bytes left aside
abbrev come_to : List Line → Option Reading → Option Reading
come_to [] r = r
come_to (l ∷ ls) None = None
come_to (l ∷ ls) (Some r) = come_to ls (next r l)

abbrev steps_after : List Line → Option Steps
steps_after ls = option_map (λ (r : Reading). r.body.steps) (come_to ls (Some start))

late_box_read : steps_after (derivation_lines late_box) ≡ Some late_box
late_box_read = refl

task_server_read : steps_after (derivation_lines task_server) ≡ Some task_server
task_server_read = refl

-- a `close` where no rule is entered: the four steps stand, and the sixth line can't
abbrev four_steps : List Line
four_steps = Head Format1 ∷ Plain (Fill A B T 1) ∷ Plain (Assign A) ∷ Plain (Pass A B G) ∷ Plain (Take A B T) ∷ []

stray_close_before : steps_after four_steps ≡ Some late_box
stray_close_before = refl

stray_close : steps_after (four_steps ++ Close ∷ []) ≡ None
stray_close = refl

-- nothing stands behind the end, and `else`, `join` and `close` where their rule is
behind_end : steps_after (derivation_lines late_box ++ End ∷ []) ≡ None
behind_end = refl

join_in_first_side : steps_after (Head Format1 ∷ Fork A ∷ Join ∷ []) ≡ None
join_in_first_side = refl

close_of_branch : steps_after (Head Format1 ∷ Fork A ∷ Else ∷ Close ∷ []) ≡ None
close_of_branch = refl

end_in_rule : steps_after (Head Format1 ∷ Fork A ∷ End ∷ []) ≡ None
end_in_rule = refl

-- a text of format 2, in which a part is used twice
abbrev asks : Steps → Steps
asks rest = tree.For Ws (H ∷ []) [] (Basic (Pass H Ws T) ▷ no_steps) ▷ rest

abbrev asks_part : Name → List Line
asks_part n = Part n ∷ Enter (For Ws (H ∷ []) []) ∷ Plain (Pass H Ws T) ∷ Close ∷ EndPart ∷ []

abbrev asks_twice : List Line
asks_twice = Head Format2 ∷ (asks_part (codes "p1") ++ Use (codes "p1") ∷ Use (codes "p1") ∷ End ∷ [])

asks_twice_text : text_of_lines asks_twice ≡ codes "brisk derivation 2\npart p1\nfor Ws by H drop\npass H Ws T\nclose\nendpart\nuse p1\nuse p1\nend\n"
asks_twice_text = refl

asks_twice_read : steps_after asks_twice ≡ Some (asks (asks no_steps))
asks_twice_read = refl

-- a part that hasn't ended or isn't there; a part behind the first main step, also where that used an empty part; a part of
-- another's name; and a part in a text of format 1
no_such_part : steps_after (Head Format2 ∷ (asks_part (codes "p1") ++ Use (codes "p2") ∷ [])) ≡ None
no_such_part = refl

part_in_itself : steps_after (Head Format2 ∷ Part T ∷ Use T ∷ []) ≡ None
part_in_itself = refl

empty_part : steps_after (Head Format2 ∷ Part T ∷ EndPart ∷ Use T ∷ End ∷ []) ≡ Some no_steps
empty_part = refl

late_part : steps_after (Head Format2 ∷ Part T ∷ EndPart ∷ Use T ∷ Part A ∷ []) ≡ None
late_part = refl

same_part : steps_after (Head Format2 ∷ Part T ∷ EndPart ∷ Part T ∷ []) ≡ None
same_part = refl

part_in_format_1 : steps_after (Head Format1 ∷ Part T ∷ []) ≡ None
part_in_format_1 = refl

-- what is written in format 2: the steps that stand twice are a part
asks_written : second_text (asks (asks no_steps)) ≡ codes "brisk derivation 2\npart p1\nfor Ws by H drop\npass H Ws T\nclose\nendpart\nuse p1\nuse p1\nend\n"
unfolding digits
asks_written = refl

-- a step that stands twice only in one that does is a part too, and those inside come first
abbrev turns : Steps → Steps
turns rest = tree.While M [] (asks no_steps) ▷ rest

turns_written : second_text (turns (turns no_steps)) ≡ codes "brisk derivation 2\npart p1\nfor Ws by H drop\npass H Ws T\nclose\nendpart\npart p2\nwhile M drop\nuse p1\nclose\nendpart\nuse p2\nuse p2\nend\n"
unfolding digits
turns_written = refl

-- where no compound step stands twice there is no part
late_box_written : second_text late_box ≡ codes "brisk derivation 2\nfill A B T 1\nassign A\npass A B G\ntake A B T\nend\n"
unfolding digits
late_box_written = refl
