-- A text whose lines all stand fails at none of them.
use Rattle.std.proofs.Common.{◌≡◌, ℕ, ◌+◌, ◌<◌, ◌⊎◌, inl, inr, List, [], ◌∷◌, ◌++◌, length, map, refl, sym, ap, ◌∙◌, subst, append_assoc, append-nil, true, arith}
use Rattle.std.specs.Prelude.{codes}
use Rattle.std.specs.List.{AllByRecursion}
use Rattle.brisk_values.specs.declared.instance.Input.{Input}
use Rattle.brisk_values.specs.declared.instance.Instance.{Instance as Given}
use Rattle.brisk_values.specs.Names.{Name}
use Rattle.brisk_syntax.specs.declared.program.EnumDecl.{EnumDecl}
use Rattle.brisk_syntax.specs.Roles.{RoleText}
use Rattle.brisk_syntax.specs.Tokens.{weight}
use Rattle.brisk_instance.specs.Given.{AreApart, instance_with}
use Rattle.brisk_instance.proofs.FitsOrdered.{fitting_is_ordered}
use Rattle.brisk_lines.specs.declared.line.Line.{Line}
use Rattle.brisk_lines.specs.declared.line.Line.TheVariants as line
use Rattle.brisk_lines.specs.Lines.{IsLegal, line_text}
use Rattle.brisk_lines.proofs.Ended.{lines_are_cut}
use Rattle.brisk_schedule.specs.declared.fault.ScheduleFault.{ScheduleFault}
use Rattle.brisk_schedule.specs.declared.fault.ScheduleFault.TheVariants.{Text, Misfit, TooLarge, NoMemory}
use Rattle.brisk_schedule.specs.declared.format.Format.{Format}
use Rattle.brisk_schedule.specs.declared.format.Format.TheVariants as format
use Rattle.brisk_schedule.specs.Laws.{ChoicesStand, SchedulesStand}
use Rattle.brisk_schedule.specs.Reading.{Fails, FailsBehind, IsEnded, IsHeavy, IsNext, IsOpen, Limit, Stands, nothing, one_more, has_line, head_line, sizes_in}
use Rattle.brisk_schedule.specs.Taking.{IsFree, Left, Takes, TakesInstance}
use Rattle.brisk_instance.specs.Starting.{IsReady, most_weight}
use Rattle.brisk_schedule.specs.Texts.{IsTold, Sizes, choices_lines, event_line, input_line, instance_lines, schedule_lines, size_line, text_of_lines}
use Rattle.brisk_schedule.proofs.Instances.{instance_stands}
use Rattle.brisk_schedule.proofs.Sections.{Behind, behind_more, behind_next, behind_open, free_stand}
use Rattle.brisk_schedule.proofs.Standing.{At, at_more, same_sizes}
use Rattle.brisk_schedule.proofs.Takes.{all_mapped, free_choice, free_event, takes_split}

-- ---- the lines before a line

-- a list with one item more, cut before an item: the item is the last one, or stands before it
cut_more : {A : Type 0} (xs : List A) (x : A) (ys : List A) (y : A) (zs : List A) → xs ++ x ∷ [] ≡ ys ++ y ∷ zs → ((xs ≡ ys) × (x ≡ y)) ⊎ ((ws : List A) × (xs ≡ ys ++ y ∷ ws))
cut_more [] x [] y zs e = inl (refl, (let t = e in cc))
cut_more [] x (w ∷ []) y zs e = absurd (let t = e in cc)
cut_more [] x (w ∷ v ∷ ys) y zs e = absurd (let t = e in cc)
cut_more (w ∷ xs) x [] y zs e = inr (xs, (let t = e in cc))
cut_more {A} (w ∷ xs) x (v ∷ ys) y zs e =
    let head : w ≡ v = cc in
    let tail : xs ++ x ∷ [] ≡ ys ++ y ∷ zs = cc in
    by_tail head (cut_more xs x ys y zs tail)
  where
    by_tail : w ≡ v → ((xs ≡ ys) × (x ≡ y)) ⊎ ((ws : List A) × (xs ≡ ys ++ y ∷ ws)) → ((w ∷ xs ≡ v ∷ ys) × (x ≡ y)) ⊎ ((ws : List A) × (w ∷ xs ≡ (v ∷ ys) ++ y ∷ ws))
    by_tail h (inl p) = inl ((λ i. h i ∷ p.0 i), p.1)
    by_tail h (inr p) = inr (p.0, λ i. h i ∷ p.1 i)

-- what is known of a line of lines that stand
record Stood (f : Format) (enums : List EnumDecl) (roles : List RoleText) (before : List Line) (l : Line) : Type 0 where
  pub next : IsNext f enums roles before l
  pub more : IsOpen roles before
  pub legal : IsLegal l
  pub formed : has_line f l ≡ true

by_cut : (f : Format) (enums : List EnumDecl) (roles : List RoleText) (ls : List Line) (m : Line) (before : List Line) (l : Line) → Stood f enums roles ls m → ((ws : List Line) → ls ≡ before ++ l ∷ ws → Stood f enums roles before l) →
    ((ls ≡ before) × (m ≡ l)) ⊎ ((ws : List Line) × (ls ≡ before ++ l ∷ ws)) → Stood f enums roles before l
by_cut f enums roles ls m before l here earlier (inl p) = subst (λ x. Stood f enums roles before x) p.1 (subst (λ xs. Stood f enums roles xs m) p.0 here)
by_cut f enums roles ls m before l here earlier (inr p) = earlier p.0 p.1

none_there : (before : List Line) (l : Line) (after : List Line) → [] ≡ before ++ l ∷ after → ⊥
none_there [] l after e = cc
none_there (x ∷ before) l after e = cc

stood : (f : Format) (enums : List EnumDecl) (roles : List RoleText) (ls : List Line) → Stands f enums roles ls → (before : List Line) (l : Line) (after : List Line) → ls ≡ before ++ l ∷ after → Stood f enums roles before l
stood f enums roles _ nothing before l after e = absurd (none_there before l after e)
stood f enums roles _ (one_more ls m s more legal formed next) before l after e =
    by_cut f enums roles ls m before l (record { next = next; more = more; legal = legal; formed = formed }) (λ ws h. stood f enums roles ls s before l ws h) (cut_more ls m before l after e)

all_legal : (f : Format) (enums : List EnumDecl) (roles : List RoleText) (ls : List Line) → Stands f enums roles ls → AllByRecursion IsLegal ls
all_legal f enums roles _ nothing = tt
all_legal f enums roles _ (one_more ls m s more legal formed next) = legal_more ls m (all_legal f enums roles ls s) legal
  where
    legal_more : (xs : List Line) (x : Line) → AllByRecursion IsLegal xs → IsLegal x → AllByRecursion IsLegal (xs ++ x ∷ [])
    legal_more [] x h p = (p, tt)
    legal_more (y ∷ xs) x h p = (h.0, legal_more xs x h.1 p)

-- ---- a text that begins with lines is cut in one way

some_text : (l : Line) (more : List ℕ) → line_text l ++ codes "\n" ++ more ≡ [] → ⊥
some_text l more e = by_front (line_text l) e
  where
    by_front : (t : List ℕ) → t ++ codes "\n" ++ more ≡ [] → ⊥
    by_front [] h = cc
    by_front (x ∷ t) h = cc

split_text : (l : Line) (ls : List Line) (more : List ℕ) → text_of_lines (l ∷ ls) ++ more ≡ line_text l ++ codes "\n" ++ (text_of_lines ls ++ more)
split_text l ls more = append_assoc (line_text l ++ codes "\n") (text_of_lines ls) more

-- where a whole text begins with lines, these are the first of its own
first_lines : (ls before : List Line) (rest : List ℕ) → AllByRecursion IsLegal ls → AllByRecursion IsLegal before → text_of_lines ls ≡ text_of_lines before ++ rest → (after : List Line) × (ls ≡ before ++ after) × (rest ≡ text_of_lines after)
first_lines ls [] rest h k e = (ls, refl, sym e)
first_lines [] (m ∷ before) rest h k e = absurd (some_text m (text_of_lines before ++ rest) (sym (e ∙ split_text m before rest)))
first_lines (l ∷ ls) (m ∷ before) rest h k e =
    let same = lines_are_cut l m (text_of_lines ls) (text_of_lines before ++ rest) h.0 k.0 (e ∙ split_text m before rest) in
    let tail = first_lines ls before rest h.1 k.1 same.1 in
    (tail.0, (λ i. same.0 i ∷ tail.1 i), tail.2)

-- ---- no fault

module _ (f : Format) (enums : List EnumDecl) (roles : List RoleText) (ls : List Line) (stands : Stands f enums roles ls) (ends : IsEnded ls) (light : IsHeavy roles ls → ⊥) where
  faultless_behind : (before : List Line) (rest : List ℕ) (after : List Line) (fault : ScheduleFault) → ls ≡ before ++ after → rest ≡ text_of_lines after → FailsBehind f enums roles before rest fault → fault ≡ NoMemory
  faultless_behind before rest [] (Text k) e r h = absurd (elim h.2 [
    | inl p ↦ p.1 r
    | inr p ↦ p.0 (subst IsEnded (e ∙ append-nil before) ends)
  ])
  faultless_behind before rest (l ∷ after) (Text k) e r h =
      let s = stood f enums roles ls stands before l after e in
      absurd (elim h.2 [
        | inl p ↦ (s.more).unended p.0
        | inr p ↦ p.1 l (text_of_lines after) (s.formed, (s.legal, r))
      ])
  faultless_behind before rest [] (Misfit k) e r h = absurd (some_text h.2 h.3 (sym h.4.1.1 ∙ r))
  faultless_behind before rest (l ∷ after) (Misfit k) e r h =
      let s = stood f enums roles ls stands before l after e in
      let same = lines_are_cut h.2 l h.3 (text_of_lines after) h.4.1.0 s.legal (sym h.4.1.1 ∙ r) in
      absurd (h.5 (subst (IsNext f enums roles before) (sym same.0) s.next))
  faultless_behind before rest [] (TooLarge k) e r h = absurd (light (subst (IsHeavy roles) (sym (append-nil before) ∙ sym e) h.1))
  faultless_behind before rest (l ∷ after) (TooLarge k) e r h = absurd (((stood f enums roles ls stands before l after e).more).light h.1)
  faultless_behind before rest after NoMemory e r h = refl

  faultless : (fault : ScheduleFault) → Fails f enums roles (text_of_lines ls) fault → fault ≡ NoMemory
  faultless fault h =
      let cut = first_lines ls h.before h.rest (all_legal f enums roles ls stands) (all_legal f enums roles h.before h.stands) h.parts in
      faultless_behind h.before h.rest cut.0 fault cut.1 cut.2 h.fails

-- ---- the lines of a tree stand

-- lines of the format are taken from their own text
takes_own : (f : Format) (ls : List Line) (more : List ℕ) (n : ℕ) → AllByRecursion IsLegal ls → AllByRecursion (λ l. has_line f l ≡ true) ls →
    Takes (record { format = f; rest = text_of_lines ls ++ more; number = n }) ls (record { format = f; rest = more; number = n + length ls })
takes_own f [] more n h k = λ i. record { format = f; rest = more; number = zero_more n i }
  where
    zero_more : (m : ℕ) → m + 0 ≡ m
    zero_more m = omega arith
takes_own f (l ∷ ls) more n h k =
    let rest = text_of_lines ls ++ more in
    let mid : Left = record { format = f; rest = rest; number = n + 1 } in
    let later = takes_own f ls more (n + 1) h.1 k.1 in
    let count : n + 1 + length ls ≡ n + length (l ∷ ls) = omega arith in
    (mid, record { begins = (k.0, (h.0, split_text l ls more)); format = refl; number = refl }, subst (λ m. Takes mid ls (record { format = f; rest = more; number = m })) count later)

module _ (f : Format) (enums : List EnumDecl) (roles : List RoleText) (text : List ℕ) (S : Sizes) where
  -- lines that may follow, and then the end
  end_stands : (ls ms : List Line) (now new : Left) → At f enums roles text ls now → Behind f enums roles S [] ls → AllByRecursion (IsFree S) ms → Takes now (ms ++ line.End ∷ []) new →
      Stands f enums roles ((ls ++ ms) ++ line.End ∷ []) × (IsHeavy roles ((ls ++ ms) ++ line.End ∷ []) → ⊥)
  end_stands ls ms now new h b a t =
      let parts = takes_split now ms (line.End ∷ []) new t in
      let z = free_stand f enums roles text S ls ms now parts.0 h b a parts.1 in
      let whole = (ls ++ ms) ++ line.End ∷ [] in
      let told : sizes_in whole ≡ S = same_sizes (ls ++ ms) line.End refl ∙ (z.1).sizes in (
        (at_more f enums roles text (ls ++ ms) line.End parts.0 (parts.2).0 z.0 (behind_open f enums roles S [] (ls ++ ms) z.1) (behind_next f enums roles S [] (ls ++ ms) z.1 line.End tt) (parts.2).1).stands,
        λ heavy. (let x = subst (λ y. most_weight < weight roles (instance_with y)) told heavy.1 in let c = (z.1).light in omega (arith, x, c)),
      )

all_formed : {A : Type 0} (f : Format) (line_of : A → Line) → ((x : A) → has_line f (line_of x) ≡ true) → (xs : List A) → AllByRecursion (λ l. has_line f l ≡ true) (map line_of xs)
all_formed f line_of each [] = tt
all_formed f line_of each (x ∷ xs) = (each x, all_formed f line_of each xs)

all_both : {A : Type 0} (P : A → Type 0) (xs ys : List A) → AllByRecursion P xs → AllByRecursion P ys → AllByRecursion P (xs ++ ys)
all_both P [] ys h k = k
all_both P (x ∷ xs) ys h k = (h.0, all_both P xs ys h.1 k)

instance_formed : (f : Format) (g : Given) → AllByRecursion (λ l. has_line f l ≡ true) (instance_lines g)
instance_formed f g = all_both (λ l. has_line f l ≡ true) (map size_line g.sizes) (map (input_line g.sizes) g.inputs)
    (all_formed f size_line (λ e. size_formed f e) g.sizes) (all_formed f (input_line g.sizes) (λ e. input_formed f e) g.inputs)
  where
    size_formed : (k : Format) (e : Name × ℕ) → has_line k (size_line e) ≡ true
    size_formed format.Schedule e = refl
    size_formed format.Choices e = refl

    input_formed : (k : Format) (e : Input) → has_line k (input_line g.sizes e) ≡ true
    input_formed format.Schedule e = refl
    input_formed format.Choices e = refl

-- the beginning of a text of these lines
abbrev begun : Format → List Line → Left
begun f ls = record { format = f; rest = text_of_lines ls ++ []; number = 0 }

-- an instance that fits and isn't too heavy is taken where its lines are
fitting_taken : (enums : List EnumDecl) (roles : List RoleText) (old new : Left) (g : Given) → AreApart roles → IsReady enums roles g → Takes old (head_line old.format ∷ instance_lines g) new → TakesInstance enums roles old new g
fitting_taken enums roles old new g apart h t = record { takes = t; ordered = fitting_is_ordered enums roles g apart h.0; light = h.1 }

pub schedules_stand : SchedulesStand
schedules_stand enums roles s fault apart h fails =
    let f = format.Schedule in
    let g = s.instance in
    let S = g.sizes in
    let front = line.Schedule ∷ instance_lines g in
    let events = map (event_line S) s.events in
    let ls = schedule_lines s in
    let old = begun f ls in
    let formed = all_both (λ l. has_line f l ≡ true) (front ++ events) (line.End ∷ []) (all_both (λ l. has_line f l ≡ true) front events (refl, instance_formed f g) (all_formed f (event_line S) (λ e. refl) s.events)) (refl, tt) in
    let new : Left = record { format = f; rest = []; number = 0 + length ls } in
    let all = subst (λ ms. Takes old ms new) (append_assoc front events (line.End ∷ [])) (takes_own f ls [] 0 h.legal formed) in
    let parts = takes_split old front (events ++ line.End ∷ []) new all in
    let begins = instance_stands f enums roles old parts.0 g refl refl (fitting_taken enums roles old parts.0 g apart h.ready parts.1) in
    let ends = end_stands f enums roles old.rest S front events parts.0 new begins.0 begins.1 (all_mapped (IsFree S) (event_line S) (IsTold S) (free_event S) s.events h.told) parts.2 in
    faultless f enums roles ls ends.0 (front ++ events, refl) ends.1 fault fails

pub choices_stand : ChoicesStand
choices_stand enums roles c fault apart h fails =
    let f = format.Choices in
    let g = c.instance in
    let S = g.sizes in
    let front = line.Choices ∷ instance_lines g in
    let turns = line.Turns c.turns in
    let picks = map line.Choose c.picks in
    let ls = choices_lines c in
    let old = begun f ls in
    let formed = all_both (λ l. has_line f l ≡ true) (front ++ turns ∷ picks) (line.End ∷ []) (all_both (λ l. has_line f l ≡ true) front (turns ∷ picks) (refl, instance_formed f g) (refl, all_formed f line.Choose (λ k. refl) c.picks)) (refl, tt) in
    let new : Left = record { format = f; rest = []; number = 0 + length ls } in
    let all = subst (λ ms. Takes old ms new) (append_assoc front (turns ∷ picks) (line.End ∷ [])) (takes_own f ls [] 0 h.legal formed) in
    let parts = takes_split old front (turns ∷ (picks ++ line.End ∷ [])) new all in
    let begins = instance_stands f enums roles old parts.0 g refl refl (fitting_taken enums roles old parts.0 g apart h.ready parts.1) in
    let limited = front ++ turns ∷ [] in
    let ends = end_stands f enums roles old.rest S limited picks (parts.2).0 new
    (at_more f enums roles old.rest front turns parts.0 (parts.2).0 begins.0 (behind_open f enums roles S (Limit ∷ []) front begins.1) (behind_next f enums roles S (Limit ∷ []) front begins.1 turns (c.turns, refl)) (parts.2).1)
    (behind_more f enums roles S Limit [] front turns begins.1 (refl, λ q. cc))
    (all_mapped (IsFree S) line.Choose (λ k. Unit {0}) (free_choice S) c.picks (all_units c.picks)) (parts.2).2 in
    let same = ap (λ ms. ms ++ line.End ∷ []) (append_assoc front (turns ∷ []) picks) in
    faultless f enums roles ls (subst (Stands f enums roles) same ends.0) (front ++ turns ∷ picks, refl) (subst (λ ms. IsHeavy roles ms → ⊥) same ends.1) fault fails
  where
    all_units : (ks : List ℕ) → AllByRecursion (λ k. Unit {0}) ks
    all_units [] = tt
    all_units (k ∷ ks) = (tt, all_units ks)

-- two whole texts of the same bytes have the same lines
pub same_lines : (ls ms : List Line) → AllByRecursion IsLegal ls → AllByRecursion IsLegal ms → text_of_lines ls ≡ text_of_lines ms → ls ≡ ms
same_lines ls ms h k e =
    let cut = first_lines ls ms [] h k (e ∙ sym (append-nil (text_of_lines ms))) in
    cut.1 ∙ ap (λ z. ms ++ z) (nothing_left cut.0 cut.2) ∙ append-nil ms
  where
    nothing_left : (after : List Line) → [] ≡ text_of_lines after → after ≡ []
    nothing_left [] q = refl
    nothing_left (l ∷ after) q = absurd (some_text l (text_of_lines after) (sym q))
