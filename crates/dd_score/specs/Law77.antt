-- To be believed: the points of a contract (Laws of Duplicate Bridge 2017, Law 77).
use Rattle.std.specs.Prelude.{ℕ, zero, suc, ◌+◌, ◌-◌, ◌*◌, ◌==◌, nat_le, Bool, true, false, if◌then◌else◌, ℤ, pos, neg_ℤ}
use Rattle.dd_cards.specs.declared.suit.Suit.{Suit}
use Rattle.dd_cards.specs.declared.suit.Suit.TheVariants.{Spades, Hearts, Diamonds, Clubs}
use Rattle.dd_cards.specs.declared.strain.Strain.{Strain}
use Rattle.dd_cards.specs.declared.strain.Strain.TheVariants.{Trump, Notrump}
use Rattle.dd_score.specs.declared.doubling.Doubling.{Doubling}
use Rattle.dd_score.specs.declared.doubling.Doubling.TheVariants.{Undoubled, Doubled, Redoubled}

-- a trick in a suit: 20 in a minor, 30 in a major
abbrev pub suit_points : Suit → ℕ
suit_points Spades = 30
suit_points Hearts = 30
suit_points Diamonds = 20
suit_points Clubs = 20

-- the tricks of the level, undoubled: at notrump 40 for the first and 30 for each other
abbrev pub trick_points : Strain → ℕ → ℕ
trick_points (Trump suit) level = suit_points suit * level
trick_points Notrump level = 40 + 30 * (level - 1)

-- trick points are twice as many doubled, four times as many redoubled
abbrev pub factor : Doubling → ℕ
factor Undoubled = 1
factor Doubled = 2
factor Redoubled = 4

-- each trick over
abbrev pub overtrick_points : Strain → Doubling → Bool → ℕ
overtrick_points (Trump suit) Undoubled vulnerable = suit_points suit
overtrick_points Notrump Undoubled vulnerable = 30
overtrick_points strain Doubled vulnerable = (if vulnerable then 200 else 100)
overtrick_points strain Redoubled vulnerable = (if vulnerable then 400 else 200)

-- trick points, as doubled, of 100 or more are a game
abbrev pub game_premium : ℕ → Bool → ℕ
game_premium tricks vulnerable = (if nat_le 100 tricks then (if vulnerable then 500 else 300) else 50)

-- six or all seven odd tricks
abbrev pub slam_premium : ℕ → Bool → ℕ
slam_premium level vulnerable =
    (if level == 6 then (if vulnerable then 750 else 500) else (if level == 7 then (if vulnerable then 1500 else 1000) else 0))

-- made though doubled or redoubled
abbrev pub doubling_premium : Doubling → ℕ
doubling_premium Undoubled = 0
doubling_premium Doubled = 50
doubling_premium Redoubled = 100

-- a contract that was made with so many tricks over
unfoldable pub made_points : ℕ → Strain → Doubling → Bool → ℕ → ℕ
made_points level strain doubling vulnerable over =
    factor doubling * trick_points strain level + over * overtrick_points strain doubling vulnerable
    + game_premium (factor doubling * trick_points strain level) vulnerable + slam_premium level vulnerable + doubling_premium doubling

-- doubled and so many tricks short: not vulnerable 100, 300, 500 and 300 more for each further one; vulnerable 200 and 300 more
-- for each further one
abbrev pub doubled_penalty : Bool → ℕ → ℕ
doubled_penalty vulnerable zero = 0
doubled_penalty true (suc more) = 200 + 300 * more
doubled_penalty false (suc zero) = 100
doubled_penalty false (suc (suc zero)) = 300
doubled_penalty false (suc (suc (suc more))) = 500 + 300 * more

-- so many tricks short: undoubled 50 or 100 for each, redoubled twice what doubled
abbrev pub penalty : Doubling → Bool → ℕ → ℕ
penalty Undoubled vulnerable short = short * (if vulnerable then 100 else 50)
penalty Doubled vulnerable short = doubled_penalty vulnerable short
penalty Redoubled vulnerable short = 2 * doubled_penalty vulnerable short

-- the points of declarer's side, whose tricks are to be the level and six at least
unfoldable pub points : ℕ → Strain → Doubling → Bool → ℕ → ℤ
points level strain doubling vulnerable tricks =
    (if nat_le (level + 6) tricks then pos (made_points level strain doubling vulnerable (tricks - (level + 6)))
    else neg_ℤ (pos (penalty doubling vulnerable (level + 6 - tricks))))
