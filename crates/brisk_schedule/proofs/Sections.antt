-- The sections of a text: the sizes, what is needed behind them, and what may follow.
use Rattle.std.proofs.Common.{◌≡◌, ℕ, zero, suc, ◌+◌, ◌<◌, ◌≤◌, inl, inr, List, [], ◌∷◌, ◌++◌, length, drop, map, refl, sym, ap, ◌∙◌, subst, append_assoc, append-nil, arith}
use Rattle.std.specs.List.{AllByRecursion}
use Rattle.std.proofs.Math.Numerals.{add-one}
use Rattle.std.proofs.lemmas.List.{drop-append-le, length-append, length-map}
use Rattle.brisk_values.specs.declared.instance.Input.{Input}
use Rattle.brisk_syntax.specs.declared.program.EnumDecl.{EnumDecl}
use Rattle.brisk_syntax.specs.Roles.{RoleText}
use Rattle.brisk_syntax.specs.Tokens.{weight}
use Rattle.brisk_instance.specs.Given.{instance_with}
use Rattle.brisk_instance.specs.Ordered.{IsInputAt, IsSizeOf, Pairwise, Slot, sets, slots}
use Rattle.brisk_lines.specs.declared.line.Line.{Line}
use Rattle.brisk_lines.specs.declared.line.Line.TheVariants as line
use Rattle.brisk_schedule.specs.declared.fault.ScheduleFault.{ScheduleFault}
use Rattle.brisk_schedule.specs.declared.format.Format.{Format}
use Rattle.brisk_schedule.specs.Reading.{Fails, IsFirst, IsHeavy, IsNext, IsOpen, Need, Head, SizeOf, ValueAt, TellsSize, TellsValue, needs, sizes_in, turns_of}
use Rattle.brisk_schedule.specs.Taking.{IsFree, Lacks, Left, Takes}
use Rattle.brisk_instance.specs.Starting.{most_weight}
use Rattle.brisk_schedule.specs.Texts.{Sizes, input_line, size_line}
use Rattle.brisk_schedule.proofs.Goes.{told_size, told_value}
use Rattle.brisk_schedule.proofs.Standing.{At, NoEnd, at_more, drop_next, fails_so, no_end_more, same_sizes, unended, unwanted_fails}

length_one : (ls : List Line) (l : Line) → length (ls ++ l ∷ []) ≡ suc (length ls)
length_one ls l = length-append ls (l ∷ []) ∙ add-one (length ls)

module _ (f : Format) (enums : List EnumDecl) (roles : List RoleText) where
  -- the needs up to the last size
  abbrev pub front_needs : List Need
  front_needs = Head ∷ map SizeOf (sets roles)

  abbrev pub later_needs : Sizes → List Need
  later_needs S = map ValueAt (slots (instance_with S) roles) ++ turns_of f

  -- what is needed where these sets are left
  abbrev left_needs : List RoleText → Sizes → List Need
  left_needs left S = map SizeOf left ++ later_needs S

  -- ---- the sizes

  -- the lines are the head and sizes, and these sets are left
  pub record InSizes (left : List RoleText) (ls : List Line) : Type 0 where
    pub unended : NoEnd ls
    pub counted : length ls + length left ≡ suc (length (sets roles))
    pub placed : drop (length ls) front_needs ≡ map SizeOf left

  in_sizes_open : (r : RoleText) (left : List RoleText) (ls : List Line) → InSizes (r ∷ left) ls → IsOpen roles ls
  in_sizes_open r left ls h = record {
    unended = unended ls h.unended;
    light = λ heavy. (let a = heavy.0 in let b = h.counted in omega (arith, a, b));
  }

  -- what is needed behind the lines is the size of the first set that is left
  needed_size : (r : RoleText) (left : List RoleText) (ls : List Line) (S : Sizes) → InSizes (r ∷ left) ls → drop (length ls) (needs f roles S) ≡ left_needs (r ∷ left) S
  needed_size r left ls S h =
      ap (drop (length ls)) (append_assoc front_needs (map ValueAt (slots (instance_with S) roles)) (turns_of f))
      ∙ drop-append-le (length ls) front_needs (later_needs S) (let b = h.counted in let c = length-map (sets roles) SizeOf in omega (arith, b, c))
      ∙ ap (λ z. z ++ later_needs S) h.placed

  next_size : (r : RoleText) (left : List RoleText) (ls : List Line) → InSizes (r ∷ left) ls → (l : Line) → IsNext f enums roles ls l → TellsSize r l
  next_size r left ls h l n = subst (λ ns. IsFirst f enums (sizes_in ls) ns l) (needed_size r left ls (sizes_in ls) h) n

  size_next : (r : RoleText) (left : List RoleText) (ls : List Line) → InSizes (r ∷ left) ls → (l : Line) → TellsSize r l → IsNext f enums roles ls l
  size_next r left ls h l t = subst (λ ns. IsFirst f enums (sizes_in ls) ns l) (sym (needed_size r left ls (sizes_in ls) h)) t

  in_sizes_more : (r : RoleText) (left : List RoleText) (ls : List Line) (l : Line) → InSizes (r ∷ left) ls → TellsSize r l → InSizes left (ls ++ l ∷ [])
  in_sizes_more r left ls l h t = record {
    unended = no_end_more ls l h.unended (λ e. let same = sym e ∙ t.1 in cc);
    counted = (let a = length_one ls l in let b = h.counted in omega (arith, a, b));
    placed = ap (λ n. drop n front_needs) (length_one ls l) ∙ drop_next (length ls) front_needs (SizeOf r) (map SizeOf left) h.placed;
  }

  module _ (text : List ℕ) where
    -- a set lacks its size
    pub sizes_lack : (left : List RoleText) (ls : List Line) (now : Left) (fault : ScheduleFault) → At f enums roles text ls now → InSizes left ls → Lacks TellsSize now left fault → Fails f enums roles text fault
    sizes_lack [] ls now fault h s e = subst (Fails f enums roles text) (sym e) (fails_so f enums roles text)
    sizes_lack (r ∷ left) ls now fault h s (inl u) = unwanted_fails f enums roles text ls now (TellsSize r) fault h (in_sizes_open r left ls s) (next_size r left ls s) u
    sizes_lack (r ∷ left) ls now fault h s (inr t) =
        sizes_lack left (ls ++ t.0 ∷ []) t.1 fault
        (at_more f enums roles text ls t.0 now t.1 h (in_sizes_open r left ls s) (size_next r left ls s t.0 t.3) t.2)
        (in_sizes_more r left ls t.0 s t.3) t.4

    -- all sets have their sizes
    pub sizes_stand : (left : List RoleText) (ls : List Line) (now new : Left) (told : Sizes) → At f enums roles text ls now → InSizes left ls → Pairwise IsSizeOf left told → Takes now (map size_line told) new →
        At f enums roles text (ls ++ map size_line told) new × InSizes [] (ls ++ map size_line told)
    sizes_stand [] ls now new [] h s p t =
        let same = sym (append-nil ls) in
        (subst (λ (x : Left). At f enums roles text (ls ++ []) x) (sym t) (subst (λ z. At f enums roles text z now) same h), subst (InSizes []) same s)
    sizes_stand [] ls now new (e ∷ told) h s p t = absurd p
    sizes_stand (r ∷ left) ls now new [] h s p t = absurd p
    sizes_stand (r ∷ left) ls now new (e ∷ told) h s p t =
        let l = size_line e in
        let tells = told_size r e p.0 in
        let z = sizes_stand left (ls ++ l ∷ []) t.0 new told
        (at_more f enums roles text ls l now t.0 h (in_sizes_open r left ls s) (size_next r left ls s l tells) t.1)
        (in_sizes_more r left ls l s tells) p.1 t.2 in
        let same = append_assoc ls (l ∷ []) (map size_line told) in
        (subst (λ y. At f enums roles text y new) same z.0, subst (InSizes []) same z.1)

  -- ---- behind the sizes

  -- the lines tell these sizes, of an instance that isn't too heavy, and this is needed behind them
  pub record Behind (S : Sizes) (left : List Need) (ls : List Line) : Type 0 where
    pub unended : NoEnd ls
    pub sizes : sizes_in ls ≡ S
    pub light : weight roles (instance_with S) ≤ most_weight
    pub placed : drop (length ls) (needs f roles S) ≡ left

  pub behind_open : (S : Sizes) (left : List Need) (ls : List Line) → Behind S left ls → IsOpen roles ls
  behind_open S left ls h = record {
    unended = unended ls h.unended;
    light = λ heavy. (let a = subst (λ s. most_weight < weight roles (instance_with s)) h.sizes heavy.1 in let b = h.light in omega (arith, a, b));
  }

  pub next_behind : (S : Sizes) (left : List Need) (ls : List Line) → Behind S left ls → (l : Line) → IsNext f enums roles ls l → IsFirst f enums S left l
  next_behind S left ls h l n =
      subst (λ ns. IsFirst f enums S ns l) h.placed (subst (λ s. IsFirst f enums s (drop (length ls) (needs f roles s)) l) h.sizes n)

  pub behind_next : (S : Sizes) (left : List Need) (ls : List Line) → Behind S left ls → (l : Line) → IsFirst f enums S left l → IsNext f enums roles ls l
  behind_next S left ls h l n =
      subst (λ s. IsFirst f enums s (drop (length ls) (needs f roles s)) l) (sym h.sizes) (subst (λ ns. IsFirst f enums S ns l) (sym h.placed) n)

  -- a line that tells no size and isn't the end
  abbrev pub IsInner : Line → Type 0
  IsInner l = (sizes_in (l ∷ []) ≡ []) × (l ≡ line.End → ⊥)

  pub behind_more : (S : Sizes) (n : Need) (left : List Need) (ls : List Line) (l : Line) → Behind S (n ∷ left) ls → IsInner l → Behind S left (ls ++ l ∷ [])
  behind_more S n left ls l h inner = record {
    unended = no_end_more ls l h.unended inner.1;
    sizes = same_sizes ls l inner.0 ∙ h.sizes;
    light = h.light;
    placed = ap (λ k. drop k (needs f roles S)) (length_one ls l) ∙ drop_next (length ls) (needs f roles S) n left h.placed;
  }

  none_behind : (n : ℕ) (xs : List Need) → drop n xs ≡ [] → drop (suc n) xs ≡ []
  none_behind zero [] e = refl
  none_behind zero (x ∷ xs) e = cc
  none_behind (suc n) [] e = refl
  none_behind (suc n) (x ∷ xs) e = none_behind n xs e

  pub behind_free : (S : Sizes) (ls : List Line) (l : Line) → Behind S [] ls → IsInner l → Behind S [] (ls ++ l ∷ [])
  behind_free S ls l h inner = record {
    unended = no_end_more ls l h.unended inner.1;
    sizes = same_sizes ls l inner.0 ∙ h.sizes;
    light = h.light;
    placed = ap (λ k. drop k (needs f roles S)) (length_one ls l) ∙ none_behind (length ls) (needs f roles S) h.placed;
  }

  value_inner : (S : Sizes) (s : Slot) (l : Line) → TellsValue enums S s l → IsInner l
  value_inner S s l t = (ap (λ m. sizes_in (m ∷ [])) t.1, λ e. let same = sym e ∙ t.1 in cc)

  free_inner : (S : Sizes) (l : Line) → IsFree S l → IsInner l
  free_inner S line.Schedule h = absurd h.0
  free_inner S line.Choices h = absurd h.0
  free_inner S (line.Size s n) h = absurd h.0
  free_inner S (line.Input p x v) h = absurd h.0
  free_inner S (line.Event p q n) h = (refl, h.1)
  free_inner S (line.Turns n) h = absurd h.0
  free_inner S (line.Choose n) h = (refl, h.1)
  free_inner S line.End h = absurd (h.1 refl)

  module _ (text : List ℕ) (S : Sizes) where
    -- an input lacks its value
    pub values_lack : (ss : List Slot) (later : List Need) (ls : List Line) (now : Left) (fault : ScheduleFault) → At f enums roles text ls now → Behind S (map ValueAt ss ++ later) ls → Lacks (TellsValue enums S) now ss fault → Fails f enums roles text fault
    values_lack [] later ls now fault h b e = subst (Fails f enums roles text) (sym e) (fails_so f enums roles text)
    values_lack (s ∷ ss) later ls now fault h b (inl u) =
        unwanted_fails f enums roles text ls now (TellsValue enums S s) fault h (behind_open S _ ls b) (next_behind S (ValueAt s ∷ map ValueAt ss ++ later) ls b) u
    values_lack (s ∷ ss) later ls now fault h b (inr t) =
        values_lack ss later (ls ++ t.0 ∷ []) t.1 fault
        (at_more f enums roles text ls t.0 now t.1 h (behind_open S _ ls b) (behind_next S (ValueAt s ∷ map ValueAt ss ++ later) ls b t.0 t.3) t.2)
        (behind_more S (ValueAt s) (map ValueAt ss ++ later) ls t.0 b (value_inner S s t.0 t.3)) t.4

    -- all inputs have their values
    pub values_stand : (ss : List Slot) (later : List Need) (ls : List Line) (now new : Left) (es : List Input) → At f enums roles text ls now → Behind S (map ValueAt ss ++ later) ls → Pairwise (IsInputAt enums) ss es → Takes now (map (input_line S) es) new →
        At f enums roles text (ls ++ map (input_line S) es) new × Behind S later (ls ++ map (input_line S) es)
    values_stand [] later ls now new [] h b p t =
        let same = sym (append-nil ls) in
        (subst (λ (x : Left). At f enums roles text (ls ++ []) x) (sym t) (subst (λ z. At f enums roles text z now) same h), subst (Behind S later) same b)
    values_stand [] later ls now new (e ∷ es) h b p t = absurd p
    values_stand (s ∷ ss) later ls now new [] h b p t = absurd p
    values_stand (s ∷ ss) later ls now new (e ∷ es) h b p t =
        let l = input_line S e in
        let tells = told_value enums S s e p.0 in
        let z = values_stand ss later (ls ++ l ∷ []) t.0 new es
        (at_more f enums roles text ls l now t.0 h (behind_open S _ ls b) (behind_next S (ValueAt s ∷ map ValueAt ss ++ later) ls b l tells) t.1)
        (behind_more S (ValueAt s) (map ValueAt ss ++ later) ls l b (value_inner S s l tells)) p.1 t.2 in
        let same = append_assoc ls (l ∷ []) (map (input_line S) es) in
        (subst (λ y. At f enums roles text y new) same z.0, subst (Behind S later) same z.1)

    -- lines that may follow stand
    pub free_stand : (ls ms : List Line) (now new : Left) → At f enums roles text ls now → Behind S [] ls → AllByRecursion (IsFree S) ms → Takes now ms new → At f enums roles text (ls ++ ms) new × Behind S [] (ls ++ ms)
    free_stand ls [] now new h b a t =
        let same = sym (append-nil ls) in
        (subst (λ (x : Left). At f enums roles text (ls ++ []) x) (sym t) (subst (λ z. At f enums roles text z now) same h), subst (Behind S []) same b)
    free_stand ls (m ∷ ms) now new h b a t =
        let z = free_stand (ls ++ m ∷ []) ms t.0 new
        (at_more f enums roles text ls m now t.0 h (behind_open S [] ls b) (behind_next S [] ls b m a.0.0) t.1)
        (behind_free S ls m b (free_inner S m a.0)) a.1 t.2 in
        let same = append_assoc ls (m ∷ []) ms in
        (subst (λ y. At f enums roles text y new) same z.0, subst (Behind S []) same z.1)

  -- behind the last size the inputs are needed, where the instance isn't too heavy
  pub behind_sizes : (S : Sizes) (ls : List Line) → InSizes [] ls → sizes_in ls ≡ S → weight roles (instance_with S) ≤ most_weight → Behind S (later_needs S) ls
  behind_sizes S ls h e light = record {
    unended = h.unended;
    sizes = e;
    light = light;
    placed =
        ap (drop (length ls)) (append_assoc front_needs (map ValueAt (slots (instance_with S) roles)) (turns_of f))
        ∙ drop-append-le (length ls) front_needs (later_needs S) (let b = h.counted in let c = length-map (sets roles) SizeOf in omega (arith, b, c))
        ∙ ap (λ z. z ++ later_needs S) h.placed;
  }

  -- the sizes are all there, and the instance is too heavy
  pub heavy_sizes : (S : Sizes) (ls : List Line) → InSizes [] ls → sizes_in ls ≡ S → most_weight < weight roles (instance_with S) → IsHeavy roles ls
  heavy_sizes S ls h e heavy = ((let a = h.counted in omega (arith, a)), subst (λ s. most_weight < weight roles (instance_with s)) (sym e) heavy)
