-- The one question of the search, do North and South take at least `need` of the tricks that are left: answers, and claims
-- of tricks, each with the cards that it rests on.
use Rattle.std.specs.Prelude.{ℕ, ◌+◌, ◌-◌, Bool, true, false, List, if◌then◌else◌}
use Rattle.dd_cards.specs.PlayingCard.{PlayingCard}
use Rattle.dd_cards.specs.Seats.{is_north_south}
use Rattle.dd_cards.specs.declared.side.Side.{Side}
use Rattle.dd_cards.specs.declared.side.Side.TheVariants.{NorthSouth, EastWest}
use Rattle.dd_play.specs.Board.{Board, tricks_left}
use Rattle.dd_play.specs.Claims.{Takes}
use Rattle.dd_play.specs.Reach.{reach, TakesBy, IsWorth}

-- yes: they take them; no: East and West take so many that they cannot
abbrev pub IsAnswer : Board → ℕ → Bool → Type 0
IsAnswer p need true = Takes NorthSouth p need
IsAnswer p need false = Takes EastWest p (tricks_left p + 1 - need)

-- the same of claims that rest on these cards and higher ones alone
abbrev pub IsAnswerBy : Board → ℕ → List PlayingCard → Bool → Type 0
IsAnswerBy p need cards true = TakesBy (reach cards) NorthSouth p need
IsAnswerBy p need cards false = TakesBy (reach cards) EastWest p (tricks_left p + 1 - need)

-- the side that takes its tricks where this is the answer
abbrev pub claimant : Bool → Side
claimant true = NorthSouth
claimant false = EastWest

-- and how many these are
abbrev pub claimed : Bool → Board → ℕ → ℕ
claimed true p need = need
claimed false p need = tricks_left p + 1 - need

-- when this card is played that is the answer, by claims that rest on these cards and higher ones alone
abbrev pub IsAnswerAfter : Board → ℕ → PlayingCard → List PlayingCard → Bool → Type 0
IsAnswerAfter p need c cards said = IsWorth (reach cards) (claimant said) p c (claimed said p need)

-- an answer, and the cards that it rests on
pub record AnswerBy : Type 0 where
  pub yes : Bool
  pub cards : List PlayingCard

-- tricks that a side claims, and the cards that this rests on
pub record ClaimBy : Type 0 where
  pub tricks : ℕ
  pub cards : List PlayingCard

-- the side takes them
abbrev pub IsClaimBy : Side → Board → ClaimBy → Type 0
IsClaimBy side p claim = TakesBy (reach claim.cards) side p claim.tricks

-- North and South take so many, and East and West
abbrev pub IsWindow : Board → ClaimBy → ClaimBy → Type 0
IsWindow p ours theirs = IsClaimBy NorthSouth p ours × IsClaimBy EastWest p theirs

-- at an empty trick, the tricks of North and South where the leader's side takes n
abbrev pub north_souths : Board → ℕ → ℕ
north_souths p n = (if is_north_south p.first then n else (tricks_left p - n))
