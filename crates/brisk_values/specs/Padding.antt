-- A name as it is kept: its bytes, and zeros after them.
use Rattle.std.specs.Prelude.{◌≡◌, ℕ, ◌-◌, ◌<◌, ◌≤◌, List, ◌++◌, length, take, replicate}
use Rattle.std.proofs.Common.{sym, ap, ◌∙◌, arith, length-take}
use Rattle.brisk_values.specs.declared.name.Name.TheInside.{Inside}

-- the bytes of the name
abbrev pub name_bytes : Inside → List ℕ
name_bytes n = take n.len n.padded

-- one to 64 bytes, and zeros after them
pub record Padded (n : Inside) : Type 0 where
  pub some : 0 < n.len
  pub few : n.len ≤ 64
  pub room : length n.padded ≡ 64
  pub zeros : n.padded ≡ take n.len n.padded ++ replicate (64 - n.len) 0

-- the name with these bytes
abbrev pub name_inside : List ℕ → Inside
name_inside bytes = record { padded = bytes ++ replicate (64 - length bytes) 0; len = length bytes }

pub name_length : (n : Inside) → Padded n → length (name_bytes n) ≡ n.len
name_length n h = simp length-take (omega (arith, h.few, h.room))

pub name_inside-name_bytes : (n : Inside) → Padded n → name_inside (name_bytes n) ≡ n
name_inside-name_bytes n h =
    let padded = ap (λ k. name_bytes n ++ replicate (64 - k) 0) (name_length n h) ∙ sym h.zeros in
    λ i. record { padded = padded i; len = name_length n h i }
