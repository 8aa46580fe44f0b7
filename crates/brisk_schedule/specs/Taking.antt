-- Lines taken from the front of a text, one after another.
use Rattle.std.specs.Prelude.{◌≡◌, ℕ, Bool, true, false, ◌+◌, ◌≤◌, ◌⊎◌, List, [], ◌∷◌, ◌++◌, map}
use Rattle.std.specs.List.{AllByRecursion}
use Rattle.brisk_values.specs.declared.instance.Instance.{Instance as Given}
use Rattle.brisk_syntax.specs.declared.program.EnumDecl.{EnumDecl}
use Rattle.brisk_syntax.specs.Roles.{RoleText}
use Rattle.brisk_syntax.specs.Tokens.{weight}
use Rattle.brisk_instance.specs.Given.{instance_of}
use Rattle.brisk_instance.specs.Ordered.{IsOrdered, Pairwise}
use Rattle.brisk_lines.specs.declared.line.Line.{Line}
use Rattle.brisk_lines.specs.declared.line.Line.TheVariants as line
use Rattle.brisk_schedule.specs.declared.fault.ScheduleFault.{ScheduleFault}
use Rattle.brisk_schedule.specs.declared.fault.ScheduleFault.TheVariants.{Text, Misfit, TooLarge, NoMemory}
use Rattle.brisk_schedule.specs.declared.format.Format.{Format}
use Rattle.brisk_schedule.specs.Reading.{HasLine, HasNoLine, MayFollow, head_line}
use Rattle.brisk_instance.specs.Starting.{most_weight}
use Rattle.brisk_schedule.specs.Texts.{Sizes, instance_lines}

-- what is left of a text of this format, and how many of its lines were taken
pub record Left : Type 0 where
  pub format : Format
  pub rest : List ℕ
  pub number : ℕ

-- the line was the next one, and is taken
pub record TakesLine (old : Left) (l : Line) (new : Left) : Type 0 where
  pub begins : HasLine old.format old.rest l new.rest
  pub format : new.format ≡ old.format
  pub number : new.number ≡ old.number + 1

-- the lines were the next ones, and are taken
abbrev pub Takes : Left → List Line → Left → Type 0
Takes old [] new = new ≡ old
Takes old (l ∷ ls) new = (mid : Left) × TakesLine old l mid × Takes mid ls new

-- the next line isn't one that is wanted: there is none, or another one
abbrev pub IsUnwanted : (Line → Type 0) → Left → ScheduleFault → Type 0
IsUnwanted wanted old (Text k) = (k ≡ old.number + 1) × HasNoLine old.format old.rest
IsUnwanted wanted old (Misfit k) = (k ≡ old.number + 1) × (l : Line) × (new : Left) × TakesLine old l new × (wanted l → ⊥)
IsUnwanted wanted old (TooLarge k) = ⊥
IsUnwanted wanted old NoMemory = Unit {0}

-- the line that tells of one of these things isn't there; those before it are taken
abbrev pub Lacks : {A : Type 0} → (A → Line → Type 0) → Left → List A → ScheduleFault → Type 0
Lacks {A} tells old [] fault = fault ≡ NoMemory
Lacks tells old (x ∷ xs) fault =
    IsUnwanted (tells x) old fault ⊎ ((l : Line) × (mid : Left) × TakesLine old l mid × tells x l × Lacks tells mid xs fault)

-- lines are taken, each of which tells what goes with one of these things; what they tell is put behind what was told before
pub record TakesAll {A B : Type 0} (goes_with : A → B → Type 0) (line_of : B → Line) (xs : List A) (old new : Left) (before after : List B) : Type 0 where
  pub told : List B
  pub more : after ≡ before ++ told
  pub pairs : Pairwise goes_with xs told
  pub takes : Takes old (map line_of told) new

-- the lines of an instance are taken, which fits and isn't too heavy
pub record TakesInstance (enums : List EnumDecl) (roles : List RoleText) (old new : Left) (g : Given) : Type 0 where
  pub takes : Takes old (head_line old.format ∷ instance_lines g) new
  pub ordered : IsOrdered enums roles g
  pub light : weight roles (instance_of g) ≤ most_weight

-- the line may stand between what is needed and the end
abbrev pub IsFree : Sizes → Line → Type 0
IsFree sizes l = MayFollow sizes l × (l ≡ line.End → ⊥)

-- the line of one thing more is taken, which is put behind those before, or the end is taken
abbrev pub Adds : {B : Type 0} → (B → Line) → (B → Type 0) → Bool → Left → Left → List B → List B → Type 0
Adds {B} line_of fits true old new before after = (x : B) × TakesLine old (line_of x) new × fits x × (after ≡ before ++ x ∷ [])
Adds line_of fits false old new before after = TakesLine old line.End new × (after ≡ before)

-- lines that may follow are taken, and then the next one may not, or something stands behind the end
pub record LacksEnd (sizes : Sizes) (old : Left) (fault : ScheduleFault) : Type 0 where
  pub lines : List Line
  pub mid : Left
  pub takes : Takes old lines mid
  pub free : AllByRecursion (IsFree sizes) lines
  pub fails : IsUnwanted (MayFollow sizes) mid fault ⊎ ((new : Left) × TakesLine mid line.End new × (new.rest ≡ [] → ⊥) × (fault ≡ Text (new.number + 1)))

-- the lines of what was told are taken, and the end, behind which nothing stands
pub record TakesToEnd {B : Type 0} (line_of : B → Line) (told : List B) (old : Left) : Type 0 where
  pub new : Left
  pub takes : Takes old (map line_of told ++ line.End ∷ []) new
  pub nothing : new.rest ≡ []
