-- Straight programs of which one is sequenced and one is refused.
use Rattle.brisk_sound.specs.Samples.{ping_pong, crossed}
use Rattle.brisk_straight.specs.Sources.{IsStraightSource}
use Rattle.brisk_answered.specs.Answered.{IsSequenced, IsRefused}

-- what the definitions give
pub record Examples : Type 0 where
  pub ping_pong_source : IsStraightSource ping_pong
  pub ping_pong_sequenced : IsSequenced ping_pong 0
  pub crossed_source : IsStraightSource crossed
  pub crossed_refused : IsRefused crossed 0
