-- Files and texts in pieces.
use Rattle.std.proofs.Common.{◌≡◌, ℕ, ◌+◌, ◌<◌, ◌≤◌, List, [], ◌++◌, length, take, drop, Option, Some, None, Ok, IfSome, refl, sym, ap, ◌∙◌, subst, arith, append_assoc, length-append, length-take}
use Rattle.std.proofs.Math.Seq.{take-add}
use Rattle.std.proofs.lemmas.List.{take_all}
use Rattle.std.proofs.lemmas.Option.{same_Some}
use Rattle.brisk_io.specs.Causes.{Files, ReadTold, WriteTold}
use Rattle.brisk_cli.specs.Files.{Put}

-- the front of a file, which is empty where the file isn't there
abbrev pub IsFrontOf : Option (List ℕ) → List ℕ → Type 0
IsFrontOf None front = front ≡ []
IsFrontOf (Some b) front = front ≡ take (length front) b

-- the front of the file of this name, where the files are told
abbrev pub IsFront : Option Files → List ℕ → List ℕ → Type 0
IsFront files name front = IfSome files (λ f. IsFrontOf (f name) front)

-- nothing is the front of each file
pub empty_front : (files : Option Files) (name : List ℕ) → IsFront files name []
empty_front None name = tt
empty_front (Some f) name = empty_of (f name)
  where
    empty_of : (file : Option (List ℕ)) → IsFrontOf file []
    empty_of None = refl
    empty_of (Some b) = refl

whole_file : (file : Option (List ℕ)) (front piece : List ℕ) → 0 < length piece → IsFrontOf file front → ReadTold file (length front) (Ok 0) piece → file ≡ Some front
whole_file None front piece room h told = absurd told
whole_file (Some b) front piece room h told = ap Some (sym (h ∙ take_all (length front) b (told.end refl room)))

more_of_file : (file : Option (List ℕ)) (front piece : List ℕ) (n : ℕ) → n ≤ length piece → IsFrontOf file front → ReadTold file (length front) (Ok n) piece → IsFrontOf file (front ++ take n piece)
more_of_file None front piece n room h told = absurd told
more_of_file (Some b) front piece n room h told =
    let size : length (front ++ take n piece) ≡ length front + n = simp (length-append, length-take) (omega arith) in
    ap (λ z. front ++ z) told.front ∙ ap (λ z. z ++ take n (drop (length front) b)) h ∙ sym (take-add (length front) n b) ∙ sym (ap (λ z. take z b) size)

long_file : (file : Option (List ℕ)) (front : List ℕ) (n : ℕ) → IsFrontOf file front → n < length front → (b : List ℕ) × (file ≡ Some b) × (n < length b)
long_file None front n h lt = absurd (omega (arith, ap length h, lt))
long_file (Some b) front n h lt = (b, refl, omega (arith, lt, ap length h, length-take (length front) b))

-- where there is nothing more to read, the front is the file
pub at_end : (files files' : Option Files) (name front piece : List ℕ) (at n : ℕ) → files' ≡ files → at ≡ length front → n ≡ 0 → 0 < length piece → IsFront files name front → IfSome files' (λ f. ReadTold (f name) at (Ok n) piece) → IfSome files (λ f. f name ≡ Some front)
at_end None files' name front piece at n e a z room h told = tt
at_end (Some f) files' name front piece at n e a z room h told =
    whole_file (f name) front piece room h (subst (λ (m : ℕ). ReadTold (f name) (length front) (Ok m) piece) z (subst (λ (k : ℕ). ReadTold (f name) k (Ok n) piece) a (subst (λ (g : Option Files). IfSome g (λ f. ReadTold (f name) at (Ok n) piece)) e told)))

-- n bytes more make a longer front
pub one_piece_more : (files files' : Option Files) (name front piece : List ℕ) (at n : ℕ) → files' ≡ files → at ≡ length front → n ≤ length piece → IsFront files name front → IfSome files' (λ f. ReadTold (f name) at (Ok n) piece) → IsFront files name (front ++ take n piece)
one_piece_more None files' name front piece at n e a room h told = tt
one_piece_more (Some f) files' name front piece at n e a room h told =
    more_of_file (f name) front piece n room h (subst (λ (k : ℕ). ReadTold (f name) k (Ok n) piece) a (subst (λ (g : Option Files). IfSome g (λ f. ReadTold (f name) at (Ok n) piece)) e told))

-- a file whose front is longer than n is longer
pub too_long : (files : Option Files) (name front : List ℕ) (n : ℕ) → IsFront files name front → n < length front → IfSome files (λ f. (b : List ℕ) × (f name ≡ Some b) × (n < length b))
too_long None name front n h lt = tt
too_long (Some f) name front n h lt = long_file (f name) front n h lt

-- one more piece is written
pub put_more : (old mid new : Option (List ℕ)) (done bytes : List ℕ) (n : ℕ) → Put old mid done → WriteTold mid new bytes (Ok n) → Put old new (done ++ take n bytes)
put_more None mid new done bytes n h told = tt
put_more (Some o) None new done bytes n h told = cc
put_more (Some o) (Some m) None done bytes n h told = absurd told
put_more (Some o) (Some m) (Some w) done bytes n h told = ap Some (told ∙ ap (λ z. z ++ take n bytes) (same_Some m (o ++ done) h) ∙ append_assoc o done (take n bytes))
