-- What is said at size one to the one member of a set is said at size two to each of its two.
use Rattle.std.proofs.Common.{◌≡◌, ◌≢◌, ◌⊎◌, inl, inr, ℕ, zero, suc, ◌+◌, ◌<◌, ◌≤◌, Bool, true, false, List, [], ◌∷◌, ◌++◌, Option, Some, None, refl, sym, ap, ◌∙◌, subst, arith, nat_eq}
use Rattle.std.specs.Prelude.{◌&&◌, ◌||◌, not, if◌then◌else◌, nat_lt, ◌-◌}
use Rattle.std.proofs.Math.Nat.{sub-zero}
use Rattle.std.proofs.lemmas.List.{append_assoc, append-nil}
use Rattle.std.proofs.lemmas.Bool.{eqb-true, eqb-false, lt-ltb, ltb-true, ltb-false}
use Rattle.brisk_values.specs.declared.value.Pid.{Pid}
use Rattle.brisk_values.specs.Functions.{changed}
use Rattle.brisk_values.specs.Names.{Name, same_name, same_process, member, single}
use Rattle.brisk_values.proofs.Changes.{both_true, exact_name, exact_process, name_laws, process_laws}
use Rattle.brisk_syntax.specs.declared.program.Program.{Program}
use Rattle.brisk_syntax.specs.Classes.{every, fits_star, in_centre, is_named, all_local, talks_to}
use Rattle.brisk_syntax.specs.Declarations.{code_in, role_named}
use Rattle.brisk_syntax.specs.Instance.{set_size, with_member}
use Rattle.brisk_syntax.specs.Roles.{RoleText}
use Rattle.brisk_syntax.specs.Syntax.{Statement, Assign, RecvAny, If, IfElse, For, Repeat, Code, done, ◌⨾◌, ◌then◌}
use Rattle.brisk_syntax.specs.WellTyped.{all_unbegun, is_unbegun}
use Rattle.brisk_async.specs.Machine.{State}
use Rattle.brisk_async.specs.PlainRuns.{plain_instance}
use Rattle.brisk_stars.specs.Doubled.{LeftOverAtTwo}
use Rattle.brisk_stars.specs.Overtaking.{IsLeftOver, to_one, turn_words}
use Rattle.brisk_stars.specs.Runs.{members_in, nobody}
use Rattle.brisk_stars.specs.Serving.{Member, Message, Served, Word, sends, takes, tells, hears, heard, if_none, followed, messages, settled, serve, told}
use Rattle.brisk_stars.specs.Sources.{IsCentre, IsStarSource, plain_start}
use Rattle.brisk_stars.specs.Words.{in_turns, words, words_to}
use Rattle.brisk_stars.proofs.Each.{own, said_to_each, served_by_themselves}
use Rattle.brisk_stars.proofs.Fronts.{every_front, unbegun_front}
use Rattle.brisk_stars.proofs.Serving.{serving_appends}
use Rattle.brisk_stars.proofs.Starting.{all_fit, each_named, found}

-- the words to one are those of the parts
to_one_append : (w : Pid) (xs ys : List Word) → to_one w (xs ++ ys) ≡ to_one w xs ++ to_one w ys
to_one_append w [] ys = refl
to_one_append w (tells k c ∷ xs) ys =
    elim (same_process w k) as (λ b. (if b then tells k c ∷ to_one w (xs ++ ys) else to_one w (xs ++ ys)) ≡ (if b then tells k c ∷ to_one w xs else to_one w xs) ++ to_one w ys) [
      | true ↦ ap (λ z. tells k c ∷ z) (to_one_append w xs ys)
      | false ↦ to_one_append w xs ys
    ]
to_one_append w (hears k c ∷ xs) ys =
    elim (same_process w k) as (λ b. (if b then hears k c ∷ to_one w (xs ++ ys) else to_one w (xs ++ ys)) ≡ (if b then hears k c ∷ to_one w xs else to_one w xs) ++ to_one w ys) [
      | true ↦ ap (λ z. hears k c ∷ z) (to_one_append w xs ys)
      | false ↦ to_one_append w xs ys
    ]

words_to_append : (w : Pid) (ms ns : List Message) → words_to w (ms ++ ns) ≡ words_to w ms ++ words_to w ns
words_to_append w [] ns = refl
words_to_append w (sends c ∷ ms) ns = ap (λ z. tells w c ∷ z) (words_to_append w ms ns)
words_to_append w (takes c ∷ ms) ns = ap (λ z. hears w c ∷ z) (words_to_append w ms ns)

-- code that talks to k has words to w where these are the same
to_another : (w k : Pid) (b : Bool) → same_process w k ≡ b → (ms : List Message) → to_one w (words_to k ms) ≡ (if b then words_to w ms else [])
to_another w k true e [] = refl
to_another w k false e [] = refl
to_another w k true e (sends c ∷ ms) =
    ap (λ z. if z then tells k c ∷ to_one w (words_to k ms) else to_one w (words_to k ms)) e ∙ (λ i. tells (sym (exact_process w k e) i) c ∷ to_another w k true e ms i)
to_another w k false e (sends c ∷ ms) = ap (λ z. if z then tells k c ∷ to_one w (words_to k ms) else to_one w (words_to k ms)) e ∙ to_another w k false e ms
to_another w k true e (takes c ∷ ms) =
    ap (λ z. if z then hears k c ∷ to_one w (words_to k ms) else to_one w (words_to k ms)) e ∙ (λ i. hears (sym (exact_process w k e) i) c ∷ to_another w k true e ms i)
to_another w k false e (takes c ∷ ms) = ap (λ z. if z then hears k c ∷ to_one w (words_to k ms) else to_one w (words_to k ms)) e ∙ to_another w k false e ms

-- what the centre's code says in one turn of each of its loops over this set
abbrev own_messages : Name → Code → List Message
own_messages s done = []
own_messages s (For v t k b ⨾ rest) = (if same_name s t then messages b else []) ++ own_messages s rest
own_messages s (Repeat t k (RecvAny c xs v u b ⨾ done) ⨾ rest) = (if same_name s t then takes c ∷ messages b else []) ++ own_messages s rest
own_messages s (x ⨾ rest) = own_messages s rest

-- the words to w, of which it hits one turn of each loop over its set, or none
module _ (sizes : Name → ℕ) (w : Pid) (hit : Bool) (turns : (s : Name) (ms : List Message) → to_one w (in_turns s (sizes s - 0) 0 (λ x. words_to x ms)) ≡ (if hit then words_to w (if same_name w.role s then ms else []) else [])) where
  a_loop : (s : Name) (ms ns : List Message) (more : List Word) → to_one w more ≡ (if hit then words_to w ns else []) →
      to_one w (in_turns s (sizes s - 0) 0 (λ x. words_to x ms) ++ more) ≡ (if hit then words_to w ((if same_name w.role s then ms else []) ++ ns) else [])
  a_loop s ms ns more h =
      to_one_append w (in_turns s (sizes s - 0) 0 (λ x. words_to x ms)) more ∙ (λ i. turns s ms i ++ h i)
      ∙ (elim hit as (λ b. (if b then words_to w (if same_name w.role s then ms else []) else []) ++ (if b then words_to w ns else []) ≡ (if b then words_to w ((if same_name w.role s then ms else []) ++ ns) else [])) [
        | true ↦ sym (words_to_append w (if same_name w.role s then ms else []) ns)
        | false ↦ refl
      ])

  its_words : (c : Code) → every in_centre c ≡ true → all_unbegun c ≡ true → to_one w (words sizes c) ≡ (if hit then words_to w (own_messages w.role c) else [])
  its_words done h u = elim hit as (λ b. to_one w [] ≡ (if b then words_to w [] else [])) [ true ↦ refl | false ↦ refl ]
  its_words (x ⨾ c) h u =
      let f = both_true (in_centre x) (every in_centre c) h in
      let g = both_true (is_unbegun x) (all_unbegun c) u in
      one x f.0 g.0 (its_words c f.1 g.1)
    where
      one : (x : Statement) → in_centre x ≡ true → is_unbegun x ≡ true → to_one w (words sizes c) ≡ (if hit then words_to w (own_messages w.role c) else []) → to_one w (words sizes (x ⨾ c)) ≡ (if hit then words_to w (own_messages w.role (x ⨾ c)) else [])
      one (Assign y e) f g m = m
      one (If e b) f g m = m
      one (IfElse e b d) f g m = m
      one (For v s k b) f g m =
          let zero_is : k ≡ 0 = eqb-true k 0 (both_true (nat_eq k 0) (all_unbegun b) g).0 in
          ap (λ n. to_one w (in_turns s (sizes s - n) n (λ x. words_to x (messages b)) ++ words sizes c)) zero_is ∙ a_loop s (messages b) (own_messages w.role c) (words sizes c) m
      one (Repeat s k (RecvAny d xs v t b ⨾ done)) f g m =
          let zero_is : k ≡ 0 = eqb-true k 0 (both_true (nat_eq k 0) (all_unbegun (RecvAny d xs v t b ⨾ done)) g).0 in
          ap (λ n. to_one w (in_turns s (sizes s - n) n (λ x. hears x d ∷ words_to x (messages b)) ++ words sizes c)) zero_is ∙ a_loop s (takes d ∷ messages b) (own_messages w.role c) (words sizes c) m
      one y f g m = cc

-- whom the turns from k on don't come to, as it is of another set or its number is too large or too small
module _ (rho s : Name) (n : ℕ) (ms : List Message) where
  abbrev it : Pid
  it = member rho n

  abbrev say : Pid → List Word
  say x = words_to x ms

  abbrev Away : ℕ → ℕ → Type 0
  Away m k = (same_name rho s ≡ false) ⊎ ((m + k ≤ n) ⊎ (n < k))

  away_once : (m k : ℕ) → Away (suc m) k → same_process it (member s k) ≡ false
  away_once m k (inl a) = ap (λ b. b && nat_eq n k) a
  away_once m k (inr h) = by (nat_eq n k) refl (same_name rho s)
    where
      by : (z : Bool) → nat_eq n k ≡ z → (y : Bool) → (y && z) ≡ false
      by false e true = refl
      by false e false = refl
      by true e y = absurd (let same = eqb-true n k e in elim h [ inl b ↦ omega (arith, same, b) | inr b ↦ omega (arith, same, b) ])

  away_on : (m k : ℕ) → Away (suc m) k → Away m (suc k)
  away_on m k (inl a) = inl a
  away_on m k (inr (inl b)) = inr (inl (omega (arith, b)))
  away_on m k (inr (inr b)) = inr (inr (omega (arith, b)))

  no_turn : (m k : ℕ) → Away m k → to_one it (in_turns s m k say) ≡ []
  no_turn zero k h = refl
  no_turn (suc m) k h = to_one_append it (say (member s k)) (in_turns s m (suc k) say) ∙ (λ i. to_another it (member s k) false (away_once m k h) ms i ++ no_turn m (suc k) (away_on m k h) i)

  one_turn_is : (m k : ℕ) → same_name rho s ≡ true → k ≤ n → n < m + k → to_one it (in_turns s m k say) ≡ words_to it ms
  one_turn_is zero k same low high = absurd (omega (arith, low, high))
  one_turn_is (suc m) k same low high =
      to_one_append it (say (member s k)) (in_turns s m (suc k) say)
      ∙ (elim (nat_eq n k) as (λ z. nat_eq n k ≡ z → to_one it (say (member s k)) ++ to_one it (in_turns s m (suc k) say) ≡ words_to it ms) [
        | true ↦ λ e.
            let here : same_process it (member s k) ≡ true = (λ i. same i && e i) in
            (λ i. to_another it (member s k) true here ms i ++ no_turn m (suc k) (inr (inr (let is = eqb-true n k e in omega (arith, is)))) i) ∙ append-nil (words_to it ms)
        | false ↦ λ e.
            let off : same_process it (member s k) ≡ false = (λ i. same i && e i) in
            (λ i. to_another it (member s k) false off ms i ++ to_one it (in_turns s m (suc k) say)) ∙ one_turn_is m (suc k) same (let d = eqb-false n k e in omega (arith, d, low)) (omega (arith, high))
      ] refl)

-- so it is at all sizes
hits : (sizes : Name → ℕ) (rho : Name) (n : ℕ) (s : Name) (ms : List Message) →
    to_one (member rho n) (in_turns s (sizes s - 0) 0 (λ x. words_to x ms)) ≡ (if nat_lt n (sizes rho) then words_to (member rho n) (if same_name rho s then ms else []) else [])
hits sizes rho n s ms =
    ap (λ z. to_one (member rho n) (in_turns s z 0 (λ x. words_to x ms))) (sub-zero (sizes s))
    ∙ (elim (same_name rho s) as (λ b. same_name rho s ≡ b → to_one (member rho n) (in_turns s (sizes s) 0 (λ x. words_to x ms)) ≡ (if nat_lt n (sizes rho) then words_to (member rho n) (if b then ms else []) else [])) [
      | false ↦ λ off. no_turn rho s n ms (sizes s) 0 (inl off) ∙ (elim (nat_lt n (sizes rho)) as (λ b. to_one (member rho n) [] ≡ (if b then words_to (member rho n) [] else [])) [ true ↦ refl | false ↦ refl ])
      | true ↦ λ same.
          let is : sizes rho ≡ sizes s = ap sizes (exact_name rho s same) in
          elim (nat_lt n (sizes rho)) as (λ b. nat_lt n (sizes rho) ≡ b → to_one (member rho n) (in_turns s (sizes s) 0 (λ x. words_to x ms)) ≡ (if b then words_to (member rho n) ms else [])) [
            | true ↦ λ e. one_turn_is rho s n ms (sizes s) 0 same (omega arith) (let l = ltb-true n (sizes rho) e in omega (arith, l, is))
            | false ↦ λ e. no_turn rho s n ms (sizes s) 0 (inr (inl (let l = ltb-false n (sizes rho) e in omega (arith, l, is))))
          ] refl
    ] refl)

words_of : (sizes : Name → ℕ) (rho : Name) (n : ℕ) (c : Code) → every in_centre c ≡ true → all_unbegun c ≡ true → to_one (member rho n) (words sizes c) ≡ (if nat_lt n (sizes rho) then words_to (member rho n) (own_messages rho c) else [])
words_of sizes rho n c h u = its_words sizes (member rho n) (nat_lt n (sizes rho)) (hits sizes rho n) c h u

-- two members that are the same are served the same by the same words
renamed : (ms : List Message) (w k : Pid) (m n : Pid → Member) → m w ≡ n k → (serve (words_to w ms) m).left ≡ [] → (serve (words_to k ms) n).left ≡ []
renamed [] w k m n h said = refl
renamed (sends c ∷ ms) w k m n h said =
    renamed ms w k (changed same_process m w (told c (m w))) (changed same_process n k (told c (n k)))
    ((λ i. if process_laws.refl w i then told c (m w) else m w) ∙ ap (told c) h ∙ sym (λ i. if process_laws.refl k i then told c (n k) else n k)) said
renamed (takes c ∷ ms) w k m n h said =
    let m' = changed same_process m w (heard c (settled (m w))) in
    let n' = changed same_process n k (heard c (settled (n k))) in
    elim ((settled (n k)).up c) as (λ z. (settled (n k)).up c ≡ z → (if_none z record { left = hears k c ∷ words_to k ms; members = λ j. settled (n j) } (serve (words_to k ms) n')).left ≡ []) [
      | zero ↦ λ e.
          let none : (settled (m w)).up c ≡ 0 = ap (λ (z : Member). (settled z).up c) h ∙ e in
          absurd (let both = sym (ap (λ z. (if_none z record { left = hears w c ∷ words_to w ms; members = λ j. settled (m j) } (serve (words_to w ms) m')).left) none) ∙ said in cc)
      | suc z ↦ λ e.
          let some : (settled (m w)).up c ≡ suc z = ap (λ (z : Member). (settled z).up c) h ∙ e in
          renamed ms w k m' n'
          ((λ i. if process_laws.refl w i then heard c (settled (m w)) else m w) ∙ ap (λ x. heard c (settled x)) h ∙ sym (λ i. if process_laws.refl k i then heard c (settled (n k)) else n k))
          (sym (ap (λ z. (if_none z record { left = hears w c ∷ words_to w ms; members = λ j. settled (m j) } (serve (words_to w ms) m')).left) some) ∙ said)
    ] refl

-- where words are said, so are those before them
said_before : (words more : List Word) (m : Pid → Member) → (serve (words ++ more) m).left ≡ [] → (serve words m).left ≡ []
said_before words more m e = by (serve words m) (sym (ap (λ (t : Served). t.left) (serving_appends words more m)) ∙ e)
  where
    by : (t : Served) → (followed t.left more t.members).left ≡ [] → t.left ≡ []
    by t e = go t.left e
      where
        go : (ws : List Word) → (followed ws more t.members).left ≡ [] → ws ≡ []
        go [] e = refl
        go (x ∷ ws) e = cc

module _ (P : Program) (r : RoleText) (source : IsStarSource P) (centre : IsCentre P r) (l : IsLeftOver P r) where
  abbrev M : Name
  M = r.name

  abbrev one : State
  one = plain_start P 1

  abbrev two : State
  two = plain_start P 2

  abbrev m1 : Pid → Member
  m1 = members_in M one

  abbrev m2 : Pid → Member
  m2 = members_in M two

  abbrev turn : List Word
  turn = turn_words l.gather (single l.gather.set)

  pub fits : every in_centre l.before ≡ true
  fits =
      let f = found P r 1 (omega arith) source centre in
      every_front in_centre l.before _ (ap (every in_centre) (sym l.parts) ∙ ap (λ b. every (if b then talks_to (is_named M) else in_centre) r.code) (sym f.1) ∙ (each_named (fits_star M) P.roles M r (all_fit P r 1 (omega arith) source centre) f.0).0)

  pub unbegun : all_unbegun l.before ≡ true
  unbegun = unbegun_front l.before _ (ap all_unbegun (sym l.parts) ∙ (each_named (λ (z : RoleText). all_unbegun z.code) P.roles M r source.unbegun (found P r 1 (omega arith) source centre).0).0)

  -- a role has members at size two where it has them at size one
  sized_alike : (rho : Name) → nat_lt 0 (one.sizes rho) ≡ nat_lt 0 (two.sizes rho)
  sized_alike rho = by (role_named P.roles rho)
    where
      by : (o : Option RoleText) → nat_lt 0 (set_size (plain_instance P 1) o) ≡ nat_lt 0 (set_size (plain_instance P 2) o)
      by None = refl
      by (Some q) = elim q.many as (λ b. nat_lt 0 (if b then 1 else 0) ≡ nat_lt 0 (if b then 2 else 0)) [ true ↦ refl | false ↦ refl ]

  one_more_hit : (rho : Name) (n : ℕ) → nat_lt n (two.sizes rho) ≡ true → nat_lt 0 (one.sizes rho) ≡ true
  one_more_hit rho n e = sized_alike rho ∙ (let h = ltb-true n (two.sizes rho) e in lt-ltb 0 (two.sizes rho) (omega (arith, h)))

  -- a member of a set that has it is the first one of size one
  alike : (rho : Name) (n : ℕ) → nat_lt n (two.sizes rho) ≡ true → m1 (single rho) ≡ m2 (member rho n)
  alike rho n e =
      elim (same_name M rho) as (λ b. (if b then nobody else record { left = messages (one.code (single rho)); up = λ c. 0; down = λ c. 0 }) ≡ (if b then nobody else record { left = messages (two.code (member rho n)); up = λ c. 0; down = λ c. 0 })) [
        | true ↦ refl
        | false ↦ λ i. record { left = messages (code i); up = λ c. 0; down = λ c. 0 }
      ]
    where
      by : (o : Option RoleText) → nat_lt n (set_size (plain_instance P 2) o) ≡ true → code_in (with_member (plain_instance P 1) 0 o) ≡ code_in (with_member (plain_instance P 2) n o)
      by None h = refl
      by (Some q) h =
          elim q.many as (λ b. nat_lt n (if b then 2 else 0) ≡ true → code_in (if nat_lt 0 (if b then 1 else 1) then Some q else None) ≡ code_in (if nat_lt n (if b then 2 else 1) then Some q else None)) [
            | true ↦ λ g. sym (ap (λ z. code_in (if z then Some q else None)) g)
            | false ↦ λ g. absurd (let x = ltb-true n 0 g in omega (arith, x))
          ] h

      code : one.code (single rho) ≡ two.code (member rho n)
      code = by (role_named P.roles rho) e

  first_alike : (rho : Name) → m1 (single rho) ≡ m2 (single rho)
  first_alike rho =
      elim (same_name M rho) as (λ b. (if b then nobody else record { left = messages (one.code (single rho)); up = λ c. 0; down = λ c. 0 }) ≡ (if b then nobody else record { left = messages (two.code (single rho)); up = λ c. 0; down = λ c. 0 })) [
        | true ↦ refl
        | false ↦ λ i. record { left = messages (by (role_named P.roles rho) i); up = λ c. 0; down = λ c. 0 }
      ]
    where
      by : (o : Option RoleText) → code_in (with_member (plain_instance P 1) 0 o) ≡ code_in (with_member (plain_instance P 2) 0 o)
      by None = refl
      by (Some q) = elim q.many as (λ b. code_in (if nat_lt 0 (if b then 1 else 1) then Some q else None) ≡ code_in (if nat_lt 0 (if b then 2 else 1) then Some q else None)) [ true ↦ refl | false ↦ refl ]

  abbrev words_one : List Word
  words_one = words one.sizes l.before ++ turn

  abbrev words_two : List Word
  words_two = words two.sizes l.before ++ turn

  said : (serve words_one m1).left ≡ []
  said = ap (λ (t : Served). t.left) l.is ∙ l.said

  -- the words to a first member are the same at both sizes
  first_words : (rho : Name) → to_one (single rho) words_one ≡ to_one (single rho) words_two
  first_words rho =
      to_one_append (single rho) (words one.sizes l.before) turn
      ∙ ap (λ ws. ws ++ to_one (single rho) turn) (words_of one.sizes rho 0 l.before fits unbegun ∙ ap (λ b. if b then words_to (single rho) (own_messages rho l.before) else []) (sized_alike rho) ∙ sym (words_of two.sizes rho 0 l.before fits unbegun))
      ∙ sym (to_one_append (single rho) (words two.sizes l.before) turn)

  first_same : (rho : Name) → ((serve (to_one (single rho) words_one) m1).left ≡ (serve (to_one (single rho) words_two) m2).left) × ((serve (to_one (single rho) words_one) m1).members (single rho) ≡ (serve (to_one (single rho) words_two) m2).members (single rho))
  first_same rho =
      let x = own (single rho) words_one m1 m2 (ap settled (first_alike rho)) in
      let is = ap (λ ws. serve ws m2) (first_words rho) in
      (x.0 ∙ ap (λ (t : Served). t.left) is, x.1 ∙ ap (λ (t : Served). t.members (single rho)) is)

  turn_to : (rho : Name) (n : ℕ) → to_one (member rho (suc n)) turn ≡ []
  turn_to rho n = to_another (member rho (suc n)) (single l.gather.set) false (off (same_name rho l.gather.set)) (takes l.gather.channel ∷ messages l.gather.body)
    where
      differ : (z : Bool) → nat_eq (suc n) 0 ≡ z → z ≡ false
      differ false e = refl
      differ true e = absurd (let same = eqb-true (suc n) 0 e in omega (arith, same))

      off : (b : Bool) → (b && nat_eq (suc n) 0) ≡ false
      off true = differ (nat_eq (suc n) 0) refl
      off false = refl

  said_to : (rho : Name) (n : ℕ) → (serve (to_one (member rho n) words_two) m2).left ≡ []
  said_to rho zero = sym (first_same rho).0 ∙ said_to_each words_one m1 (single rho) said
  said_to rho (suc n) =
      let w = member rho (suc n) in
      let is : to_one w words_two ≡ (if nat_lt (suc n) (two.sizes rho) then words_to w (own_messages rho l.before) else []) =
      to_one_append w (words two.sizes l.before) turn ∙ (λ i. to_one w (words two.sizes l.before) ++ turn_to rho n i) ∙ append-nil (to_one w (words two.sizes l.before)) ∙ words_of two.sizes rho (suc n) l.before fits unbegun in
      ap (λ ws. (serve ws m2).left) is
      ∙ (elim (nat_lt (suc n) (two.sizes rho)) as (λ b. nat_lt (suc n) (two.sizes rho) ≡ b → (serve (if b then words_to w (own_messages rho l.before) else []) m2).left ≡ []) [
        | false ↦ λ e. refl
        | true ↦ λ e.
            let first : to_one (single rho) (words one.sizes l.before) ≡ words_to (single rho) (own_messages rho l.before) =
            words_of one.sizes rho 0 l.before fits unbegun ∙ ap (λ b. if b then words_to (single rho) (own_messages rho l.before) else []) (one_more_hit rho (suc n) e) in
            renamed (own_messages rho l.before) (single rho) w m1 m2 (alike rho (suc n) e)
            (ap (λ ws. (serve ws m1).left) (sym first) ∙ said_to_each (words one.sizes l.before) m1 (single rho) (said_before (words one.sizes l.before) turn m1 said))
      ] refl)

  left_over : ((serve words_two m2).left ≡ []) × (((serve words_two m2).members (single l.gather.set)).up l.gather.channel ≢ 0)
  left_over =
      let all = served_by_themselves words_two m2 (λ w. said_to w.role w.member) in
      let first = served_by_themselves words_one m1 (λ w. said_to_each words_one m1 w said) in
      let s = l.gather.set in
      let same : (serve words_one m1).members (single s) ≡ (serve words_two m2).members (single s) = first.1 (single s) ∙ (first_same s).1 ∙ sym (all.1 (single s)) in
      (all.0, λ none. l.more (ap (λ (t : Served). (t.members (single s)).up l.gather.channel) (sym l.is) ∙ ap (λ (z : Member). z.up l.gather.channel) same ∙ none))

pub left_over_at_two : LeftOverAtTwo
left_over_at_two P r source centre l = left_over P r source centre l
