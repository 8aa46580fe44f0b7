-- Things of which lines tell, one after another: a walk over them that takes the line of each.
use Rattle.std.specs.Prelude.{if◌then◌else◌}
use Rattle.std.proofs.lemmas.List.{at_drop_all, at_drop_more, map-append}
use Rattle.std.proofs.Common.{◌≡◌, ℕ, suc, ◌+◌, ◌-◌, ◌<◌, ◌≤◌, arith, length, drop, get_or, true, false, inl, inr, List, [], ◌∷◌, ◌++◌, map, refl, sym, ap, ◌∙◌, subst, append_assoc, append-nil}
use Rattle.brisk_values.specs.declared.instance.Input.{Input}
use Rattle.brisk_values.specs.Names.{Name, member}
use Rattle.brisk_syntax.specs.declared.program.Decl.{Decl}
use Rattle.brisk_syntax.specs.declared.program.EnumDecl.{EnumDecl}
use Rattle.brisk_syntax.specs.Instance.{least}
use Rattle.brisk_syntax.specs.Roles.{RoleText}
use Rattle.brisk_instance.specs.Ordered.{IsInputAt, IsSizeOf, Pairwise, Slot, sets, slots_at, slots_of}
use Rattle.brisk_lines.specs.declared.line.Line.TheVariants as line
use Rattle.brisk_schedule.specs.Reading.{TellsSize, TellsValue}
use Rattle.brisk_schedule.specs.Texts.{Sizes, input_line, size_line, written}
use Rattle.brisk_lines.specs.declared.line.Line.{Line}
use Rattle.brisk_schedule.specs.declared.fault.ScheduleFault.{ScheduleFault}
use Rattle.brisk_schedule.specs.declared.fault.ScheduleFault.TheVariants.{NoMemory}
use Rattle.brisk_schedule.specs.Taking.{IsUnwanted, Lacks, Left, Takes, TakesAll, TakesLine}
use Rattle.brisk_schedule.proofs.Takes.{takes_both}

-- want of memory may come anywhere
pub lacks_memory : {A : Type 0} (tells : A → Line → Type 0) (old : Left) (xs : List A) → Lacks tells old xs NoMemory
lacks_memory tells old [] = refl
lacks_memory tells old (x ∷ xs) = inl tt

-- what the first of two lists lacks, both lack
pub lacks_front : {A : Type 0} (tells : A → Line → Type 0) (old : Left) (xs ys : List A) (f : ScheduleFault) → Lacks tells old xs f → Lacks tells old (xs ++ ys) f
lacks_front {A} tells old [] ys f h = subst (Lacks tells old ys) (sym h) (lacks_memory tells old ys)
lacks_front tells old (x ∷ xs) ys f (inl h) = inl h
lacks_front tells old (x ∷ xs) ys f (inr h) = inr (h.0, h.1, h.2, h.3, lacks_front tells h.1 xs ys f h.4)

pairs_both : {A B : Type 0} (R : A → B → Type 0) (xs us : List A) (ys vs : List B) → Pairwise R xs ys → Pairwise R us vs → Pairwise R (xs ++ us) (ys ++ vs)
pairs_both R [] us [] vs h k = k
pairs_both R [] us (y ∷ ys) vs h k = absurd h
pairs_both R (x ∷ xs) us [] vs h k = absurd h
pairs_both R (x ∷ xs) us (y ∷ ys) vs h k = (h.0, pairs_both R xs us ys vs h.1 k)

module _ {A B : Type 0} (R : A → B → Type 0) (line_of : B → Line) (tells : A → Line → Type 0) (told : (x : A) (y : B) → R x y → tells x (line_of y)) where
  lacks_later : (xs us : List A) (ys : List B) (old mid : Left) (f : ScheduleFault) → Pairwise R xs ys → Takes old (map line_of ys) mid → Lacks tells mid us f → Lacks tells old (xs ++ us) f
  lacks_later [] us [] old mid f p t h = subst (λ (s : Left). Lacks tells s us f) t h
  lacks_later [] us (y ∷ ys) old mid f p t h = absurd p
  lacks_later (x ∷ xs) us [] old mid f p t h = absurd p
  lacks_later (x ∷ xs) us (y ∷ ys) old mid f p t h = inr (line_of y, t.0, t.1, told x y p.0, lacks_later xs us ys t.0 mid f p.1 t.2 h)

  -- the lines of both lists are taken
  pub takes_all_both : (xs us : List A) (old mid new : Left) (before middle after : List B) → TakesAll R line_of xs old mid before middle → TakesAll R line_of us mid new middle after → TakesAll R line_of (xs ++ us) old new before after
  takes_all_both xs us old mid new before middle after h k = record {
    told = h.told ++ k.told;
    more = k.more ∙ ap (λ zs. zs ++ k.told) h.more ∙ append_assoc before h.told k.told;
    pairs = pairs_both R xs us h.told k.told h.pairs k.pairs;
    takes = subst (λ (ls : List Line). Takes old ls new) (sym (map-append line_of h.told k.told)) (takes_both old (map line_of h.told) mid (map line_of k.told) new h.takes k.takes);
  }

  -- the line of one thing is taken
  pub takes_one : (x : A) (y : B) (old new : Left) (before after : List B) → R x y → TakesLine old (line_of y) new → after ≡ before ++ y ∷ [] → TakesAll R line_of (x ∷ []) old new before after
  takes_one x y old new before after h t e = record { told = y ∷ []; more = e; pairs = (h, tt); takes = (new, t, refl) }

  -- nothing is taken
  pub takes_none : (old : Left) (before : List B) → TakesAll R line_of [] old old before before
  takes_none old before = record { told = []; more = sym (append-nil before); pairs = tt; takes = refl }

  -- How far a walk over all things has come: what is left of them leads from here to where all lead from the beginning, and what
  -- is lacking of them is lacking of all.
  pub record Goes (all left : List A) (old now : Left) (before so_far : List B) : Type 0 where
    pub ends : (new : Left) (after : List B) → TakesAll R line_of left now new so_far after → TakesAll R line_of all old new before after
    pub lacks : (f : ScheduleFault) → Lacks tells now left f → Lacks tells old all f

  pub goes_start : (all : List A) (old : Left) (before : List B) → Goes all all old old before before
  goes_start all old before = record { ends = λ new after h. h; lacks = λ f h. h }

  -- the lines of the first things that are left are taken
  pub goes_on : (all first later : List A) (old mid new : Left) (before middle after : List B) → Goes all (first ++ later) old mid before middle → TakesAll R line_of first mid new middle after → Goes all later old new before after
  goes_on all first later old mid new before middle after g h = record {
    ends = λ z xs k. g.ends z xs (takes_all_both first later mid new z middle after xs h k);
    lacks = λ f k. g.lacks f (lacks_later first later h.told mid new f h.pairs h.takes k);
  }

  -- one of the first things that are left is lacking
  pub goes_wrong : (all first later : List A) (old mid : Left) (before middle : List B) (f : ScheduleFault) → Goes all (first ++ later) old mid before middle → Lacks tells mid first f → Lacks tells old all f
  goes_wrong all first later old mid before middle f g h = g.lacks f (lacks_front tells mid first later f h)

  -- nothing is left
  pub goes_end : (all : List A) (old now : Left) (before after : List B) → Goes all [] old now before after → TakesAll R line_of all old now before after
  goes_end all old now before after g = g.ends now after (takes_none now after)

-- ---- sizes and inputs

pub told_size : (r : RoleText) (e : Name × ℕ) → IsSizeOf r e → TellsSize r (size_line e)
told_size r e h = (e.1, λ i. line.Size (h.0 i) e.1, h.1)

pub told_value : (enums : List EnumDecl) (sizes : Sizes) (s : Slot) (e : Input) → IsInputAt enums s e → TellsValue enums sizes s (input_line sizes e)
told_value enums sizes s e h = (e.value, λ i. line.Input (written sizes (h.process i)) (h.variable i) e.value, h.kind)

-- a walk over sets that takes their sizes
abbrev pub SizesGo : (all left : List RoleText) (old now : Left) (before so_far : Sizes) → Type 0
SizesGo = Goes IsSizeOf size_line TellsSize told_size

-- a walk over slots that takes their inputs
abbrev pub InputsGo : List EnumDecl → Sizes → (all left : List Slot) (old now : Left) (before so_far : List Input) → Type 0
InputsGo enums sizes = Goes (IsInputAt enums) (input_line sizes) (TellsValue enums sizes) (told_value enums sizes)

-- one set more has its size
pub set_more : (all : List RoleText) (r : RoleText) (rs : List RoleText) (n : ℕ) (old mid new : Left) (before middle after : Sizes) →
    SizesGo all (sets (r ∷ rs)) old mid before middle → r.many ≡ true → TakesLine mid (line.Size r.name n) new → least r ≤ n → after ≡ middle ++ (r.name, n) ∷ [] → SizesGo all (sets rs) old new before after
set_more all r rs n old mid new before middle after g many t enough e =
    goes_on IsSizeOf size_line TellsSize told_size all (r ∷ []) (sets rs) old mid new before middle after
    (subst (λ b. SizesGo all (if b then r ∷ sets rs else sets rs) old mid before middle) many g)
    (takes_one IsSizeOf size_line TellsSize told_size r (r.name, n) mid new middle after (refl, enough) t e)

-- a set lacks its size
pub set_wrong : (all : List RoleText) (r : RoleText) (rs : List RoleText) (old mid : Left) (before middle : Sizes) (f : ScheduleFault) →
    SizesGo all (sets (r ∷ rs)) old mid before middle → r.many ≡ true → IsUnwanted (TellsSize r) mid f → Lacks TellsSize old all f
set_wrong all r rs old mid before middle f g many u =
    goes_wrong IsSizeOf size_line TellsSize told_size all (r ∷ []) (sets rs) old mid before middle f
    (subst (λ b. SizesGo all (if b then r ∷ sets rs else sets rs) old mid before middle) many g) (inl u)

-- a single role needs no size
pub set_passed : (all : List RoleText) (r : RoleText) (rs : List RoleText) (old mid : Left) (before middle : Sizes) →
    SizesGo all (sets (r ∷ rs)) old mid before middle → r.many ≡ false → SizesGo all (sets rs) old mid before middle
set_passed all r rs old mid before middle g single = subst (λ b. SizesGo all (if b then r ∷ sets rs else sets rs) old mid before middle) single g

module _ (enums : List EnumDecl) (sizes : Sizes) where
  -- one input more has its value
  pub input_more : (all : List Slot) (s : Slot) (later : List Slot) (e : Input) (old mid new : Left) (before middle after : List Input) →
      InputsGo enums sizes all (s ∷ later) old mid before middle → IsInputAt enums s e → TakesLine mid (input_line sizes e) new → after ≡ middle ++ e ∷ [] → InputsGo enums sizes all later old new before after
  input_more all s later e old mid new before middle after g h t put =
      goes_on (IsInputAt enums) (input_line sizes) (TellsValue enums sizes) (told_value enums sizes) all (s ∷ []) later old mid new before middle after g
      (takes_one (IsInputAt enums) (input_line sizes) (TellsValue enums sizes) (told_value enums sizes) s e mid new middle after h t put)

  -- the inputs of the first slots have their values
  pub inputs_more : (all first later : List Slot) (old mid new : Left) (before middle after : List Input) →
      InputsGo enums sizes all (first ++ later) old mid before middle → TakesAll (IsInputAt enums) (input_line sizes) first mid new middle after → InputsGo enums sizes all later old new before after
  inputs_more = goes_on (IsInputAt enums) (input_line sizes) (TellsValue enums sizes) (told_value enums sizes)

  -- one of the first slots lacks its input
  pub inputs_wrong : (all first later : List Slot) (old mid : Left) (before middle : List Input) (f : ScheduleFault) →
      InputsGo enums sizes all (first ++ later) old mid before middle → Lacks (TellsValue enums sizes) mid first f → Lacks (TellsValue enums sizes) old all f
  inputs_wrong = goes_wrong (IsInputAt enums) (input_line sizes) (TellsValue enums sizes) (told_value enums sizes)

  -- no slot is left
  pub inputs_end : (all : List Slot) (old now : Left) (before after : List Input) → InputsGo enums sizes all [] old now before after → TakesAll (IsInputAt enums) (input_line sizes) all old now before after
  inputs_end = goes_end (IsInputAt enums) (input_line sizes) (TellsValue enums sizes) (told_value enums sizes)

-- no set is left
pub sizes_end : (all : List RoleText) (old now : Left) (before after : Sizes) → SizesGo all [] old now before after → TakesAll IsSizeOf size_line all old now before after
sizes_end = goes_end IsSizeOf size_line TellsSize told_size

-- what holds of the items that are left holds of the next one and those behind it
pub next_left : {A : Type 0} (P : List A → Type 0) (items : List A) (i : ℕ) (x : A) → i < length items → x ≡ get_or items i x → P (drop i items) → P (x ∷ drop (i + 1) items)
next_left {A} P items i x less is h = subst P (at_drop_more (λ (xs : List A). xs) items i x less ∙ ap (λ y. y ∷ drop (i + 1) items) (sym is)) h

-- behind the last item nothing is left
pub none_left : {A : Type 0} (P : List A → Type 0) (items : List A) (i : ℕ) → length items ≤ i → P (drop i items) → P []
none_left {A} P items i more h = subst P (at_drop_all (λ (xs : List A). xs) items i more) h

-- what holds of the slots of the members that are left holds of those of the next one and those behind it
pub member_left : (P : List Slot → Type 0) (n : Name) (ds : List Decl) (k count : ℕ) → k < count → P (slots_of n ds k (count - k)) → P (slots_at (member n k) ds ++ slots_of n ds (k + 1) (count - (k + 1)))
member_left P n ds k count less h =
    let next : count - k ≡ suc (count - (k + 1)) = omega arith in
    subst (λ m. P (slots_of n ds k m)) next h

-- behind the last member nothing is left
pub no_member_left : (P : List Slot → Type 0) (n : Name) (ds : List Decl) (k count : ℕ) → count ≤ k → P (slots_of n ds k (count - k)) → P []
no_member_left P n ds k count more h =
    let none : count - k ≡ 0 = omega arith in
    subst (λ m. P (slots_of n ds k m)) none h
