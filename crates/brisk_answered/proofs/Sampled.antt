-- Straight programs of which one is sequenced and one is refused.
use Rattle.std.proofs.Common.{inl, inr, Bool, true, false, [], ◌∷◌, refl, ap, arith}
use Rattle.brisk_values.specs.declared.value.Kind.TheVariants as kind
use Rattle.brisk_sound.specs.Samples.{ping_pong, crossed}
use Rattle.brisk_search.specs.Searched.{Searched, Sequenced}
use Rattle.brisk_straight.specs.Sources.{IsStraightSource}
use Rattle.brisk_answered.specs.Answered.{IsRefused}
use Rattle.brisk_answered.specs.Examples.{Examples}
use Rattle.brisk_answered.proofs.Answered.{never_refused_emptily}

is_sequenced : Searched → Bool
is_sequenced (Sequenced D Q) = true
is_sequenced o = false

ping_pong_source : IsStraightSource ping_pong
ping_pong_source = record {
  typed = record {
    names = refl;
    tags = tt;
    channels = ((refl, tt), ((refl, tt), tt));
    roles = (
      record { decls = record { each = (refl, ((refl, refl), tt)); apart = refl; no_global = (refl, (refl, tt)) }; code = (((kind.Int ∷ [], refl, (refl, tt)), refl), (((kind.Int ∷ [], refl, (refl, tt), refl), refl), tt)) },
      (record { decls = record { each = ((refl, refl), tt); apart = refl; no_global = (refl, tt) }; code = (((kind.Int ∷ [], refl, (refl, tt), refl), refl), (((kind.Int ∷ [], refl, ((refl, refl, refl), tt)), refl), tt)) }, tt),
    );
  };
  tagged = refl;
  straight = refl;
  statements = omega arith;
  nesting = (omega arith, (omega arith, tt));
}

crossed_source : IsStraightSource crossed
crossed_source = record {
  typed = record {
    names = refl;
    tags = tt;
    channels = ((refl, tt), ((refl, tt), tt));
    roles = (
      record { decls = record { each = ((refl, refl), tt); apart = refl; no_global = (refl, tt) }; code = (((kind.Int ∷ [], refl, (refl, tt), refl), refl), (((kind.Int ∷ [], refl, (refl, tt)), refl), tt)) },
      (record { decls = record { each = ((refl, refl), tt); apart = refl; no_global = (refl, tt) }; code = (((kind.Int ∷ [], refl, (refl, tt), refl), refl), (((kind.Int ∷ [], refl, (refl, tt)), refl), tt)) }, tt),
    );
  };
  tagged = refl;
  straight = refl;
  statements = omega arith;
  nesting = (omega arith, (omega arith, tt));
}

crossed_refused : IsRefused crossed 0
unfolding is_sequenced
crossed_refused =
    elim (never_refused_emptily crossed 0 crossed_source) [
      | inl s ↦ (let e = ap is_sequenced s.2 in cc)
      | inr r ↦ r
    ]

pub shown : Examples
shown = record {
  ping_pong_source = ping_pong_source;
  ping_pong_sequenced = (_, _, refl);
  crossed_source = crossed_source;
  crossed_refused = crossed_refused;
}
