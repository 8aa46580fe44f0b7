-- What is lent is there.
use Rattle.std.proofs.Common.{◌≡◌, Option, Some, None, subst, sym}
use Rattle.std.specs.Prelude.{IfSome, OnSome}
use Rattle.std.proofs.lemmas.Option.{same_Some}

-- what holds of the one that is there
pub of_one : {A : Type 0} (o : Option A) (c : A) (P : A → Type 0) → Some c ≡ o → P c → IfSome o P
of_one None c P e h = cc
of_one (Some d) c P e h = subst P (same_Some c d e) h

pub if_one : {A : Type 0} (o : Option A) (c : A) (P : A → Type 0) → Some c ≡ o → IfSome o P → P c
if_one None c P e h = cc
if_one (Some d) c P e h = subst P (sym (same_Some c d e)) h

-- what holds where one is there
pub on_one : {A P : Type 0} (o : Option A) (c : A) → o ≡ Some c → OnSome o P → P
on_one None c e h = cc
on_one (Some d) c e h = h
