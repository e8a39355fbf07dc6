-- To be believed: deals of thirteen cards a hand.
use Rattle.std.specs.Prelude.{◌≡◌, length}
use Rattle.dd_cards.specs.Hands.{FourHands}

-- thirteen cards a hand
pub record IsThirteen (hands : FourHands) : Type 0 where
  pub north : length hands.north ≡ 13
  pub east : length hands.east ≡ 13
  pub south : length hands.south ≡ 13
  pub west : length hands.west ≡ 13
