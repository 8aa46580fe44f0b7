-- At which line a text of a schedule or of choices first fails, and why.
use Rattle.std.specs.Prelude.{◌≡◌, ℕ, ◌+◌, ◌≤◌, ◌<◌, Bool, true, false, ◌⊎◌, List, [], ◌∷◌, ◌++◌, length, drop, map, is_some, IfSome}
use Rattle.brisk_syntax.specs.declared.program.EnumDecl.{EnumDecl}
use Rattle.brisk_values.specs.declared.value.Value.{Value}
use Rattle.brisk_syntax.specs.Instance.{IsOfKind, least}
use Rattle.brisk_syntax.specs.Roles.{RoleText}
use Rattle.brisk_syntax.specs.Tokens.{weight}
use Rattle.brisk_instance.specs.Given.{instance_with}
use Rattle.brisk_instance.specs.Ordered.{Slot, sets, slots}
use Rattle.brisk_lines.specs.declared.line.Line.{Line}
use Rattle.brisk_lines.specs.declared.line.Line.TheVariants as line
use Rattle.brisk_lines.specs.declared.line.Process.{Process}
use Rattle.brisk_lines.specs.Lines.{BeginsWith, IsLegal}
use Rattle.brisk_schedule.specs.declared.fault.ScheduleFault.{ScheduleFault}
use Rattle.brisk_schedule.specs.declared.fault.ScheduleFault.TheVariants.{Text, Misfit, TooLarge, NoMemory}
use Rattle.brisk_schedule.specs.declared.format.Format.{Format}
use Rattle.brisk_schedule.specs.declared.format.Format.TheVariants.{Schedule, Choices}
use Rattle.brisk_instance.specs.Starting.{most_weight}
use Rattle.brisk_schedule.specs.Texts.{Sizes, is_sized, text_of_lines, written}

-- the line is one of those that a text of the format has
abbrev pub has_line : Format → Line → Bool
has_line Schedule line.Choices = false
has_line Schedule (line.Turns n) = false
has_line Schedule (line.Choose n) = false
has_line Choices line.Schedule = false
has_line Choices (line.Event p q n) = false
has_line format l = true

-- the head of a text
abbrev pub head_line : Format → Line
head_line Schedule = line.Schedule
head_line Choices = line.Choices

-- the sizes that lines tell
abbrev pub sizes_in : List Line → Sizes
sizes_in [] = []
sizes_in (line.Size s n ∷ ls) = (s, n) ∷ sizes_in ls
sizes_in (l ∷ ls) = sizes_in ls

-- what an instance needs in its text: the head, the size of each set, the value of each input, and for choices the number of turns
pub data Need : Type 0 where
  Head : Need
  SizeOf : (r : RoleText) → Need
  ValueAt : (s : Slot) → Need
  Limit : Need

-- the number of turns is needed by choices alone
abbrev pub turns_of : Format → List Need
turns_of Schedule = []
turns_of Choices = Limit ∷ []

-- what is needed of an instance of these sizes, in order
abbrev pub needs : Format → List RoleText → Sizes → List Need
needs f roles sizes = Head ∷ map SizeOf (sets roles) ++ map ValueAt (slots (instance_with sizes) roles) ++ turns_of f

-- the line tells the size of the set, which is no less than its least
abbrev pub TellsSize : RoleText → Line → Type 0
TellsSize r l = (n : ℕ) × (l ≡ line.Size r.name n) × (least r ≤ n)

-- the line tells the value of the input, which is of its kind
abbrev pub TellsValue : List EnumDecl → Sizes → Slot → Line → Type 0
TellsValue enums sizes s l = (v : Value) × (l ≡ line.Input (written sizes s.process) s.variable v) × IsOfKind enums s.kind v

-- the line tells the number of turns
abbrev pub TellsTurns : Line → Type 0
TellsTurns l = (n : ℕ) × (l ≡ line.Turns n)

-- the line is what is needed
abbrev pub Meets : Format → List EnumDecl → Sizes → Need → Line → Type 0
Meets f enums sizes Head l = l ≡ head_line f
Meets f enums sizes (SizeOf r) l = TellsSize r l
Meets f enums sizes (ValueAt s) l = TellsValue enums sizes s l
Meets f enums sizes Limit l = TellsTurns l

-- the process is written with a number exactly where there is a size for its role
abbrev pub IsWritten : Sizes → Process → Type 0
IsWritten sizes p = is_some p.member ≡ is_sized sizes p.role

-- the line may stand behind all that is needed: an event whose processes are written so, a choice, or the end
abbrev pub MayFollow : Sizes → Line → Type 0
MayFollow sizes (line.Event p q n) = IsWritten sizes p × IfSome q (IsWritten sizes)
MayFollow sizes (line.Choose n) = Unit {0}
MayFollow sizes line.End = Unit {0}
MayFollow sizes l = ⊥

-- the line is the first of what is needed, or may follow where nothing is needed any more
abbrev pub IsFirst : Format → List EnumDecl → Sizes → List Need → Line → Type 0
IsFirst f enums sizes [] l = MayFollow sizes l
IsFirst f enums sizes (n ∷ ns) l = Meets f enums sizes n l

-- the line is the one that the instance needs behind these lines
abbrev pub IsNext : Format → List EnumDecl → List RoleText → List Line → Line → Type 0
IsNext f enums roles ls l = IsFirst f enums (sizes_in ls) (drop (length ls) (needs f roles (sizes_in ls))) l

-- the last of the lines is the end
abbrev pub IsEnded : List Line → Type 0
IsEnded ls = (before : List Line) × (ls ≡ before ++ line.End ∷ [])

-- the last of the lines is that of the last size, or the head where there are no sets, and the instance is too heavy
abbrev pub IsHeavy : List RoleText → List Line → Type 0
IsHeavy roles ls = (length ls ≡ length (sets roles) + 1) × (most_weight < weight roles (instance_with (sizes_in ls)))

-- lines may stand behind these
pub record IsOpen (roles : List RoleText) (ls : List Line) : Type 0 where
  pub unended : IsEnded ls → ⊥
  pub light : IsHeavy roles ls → ⊥

-- The lines are such as begin a text: each is legal, one of the format's, and the one that is needed behind those before it.
pub data Stands (f : Format) (enums : List EnumDecl) (roles : List RoleText) : List Line → Type 0 where
  nothing : Stands f enums roles []
  one_more : (ls : List Line) (l : Line) (so_far : Stands f enums roles ls) (more : IsOpen roles ls) (legal : IsLegal l) (formed : has_line f l ≡ true) (next : IsNext f enums roles ls l) → Stands f enums roles (ls ++ l ∷ [])

-- the text begins with this line of the format, and this stands behind
abbrev pub HasLine : Format → List ℕ → Line → List ℕ → Type 0
HasLine f text l more = (has_line f l ≡ true) × BeginsWith text l more

-- the text begins with no line of the format
abbrev pub HasNoLine : Format → List ℕ → Type 0
HasNoLine f text = (l : Line) (more : List ℕ) → HasLine f text l more → ⊥

-- Why the text doesn't go on behind these lines. Text: something stands behind the end, or no line of the format stands
-- there. Misfit: such a line does, but not the one that is needed. TooLarge: with the last line the instance is too heavy.
abbrev pub FailsBehind : Format → List EnumDecl → List RoleText → List Line → List ℕ → ScheduleFault → Type 0
FailsBehind f enums roles ls rest (Text k) =
    (k ≡ length ls + 1) × (IsHeavy roles ls → ⊥) × ((IsEnded ls × (rest ≡ [] → ⊥)) ⊎ ((IsEnded ls → ⊥) × HasNoLine f rest))
FailsBehind f enums roles ls rest (Misfit k) =
    (k ≡ length ls + 1) × IsOpen roles ls × (l : Line) × (more : List ℕ) × HasLine f rest l more × (IsNext f enums roles ls l → ⊥)
FailsBehind f enums roles ls rest (TooLarge k) = (k ≡ length ls) × IsHeavy roles ls
FailsBehind f enums roles ls rest NoMemory = Unit {0}

-- the text fails so: its lines before stand, and behind them it doesn't go on; for want of memory nothing is told
pub record Fails (f : Format) (enums : List EnumDecl) (roles : List RoleText) (text : List ℕ) (fault : ScheduleFault) : Type 0 where
  pub before : List Line
  pub rest : List ℕ
  pub parts : text ≡ text_of_lines before ++ rest
  pub stands : Stands f enums roles before
  pub fails : FailsBehind f enums roles before rest fault
