-- the numbers of a trace from the last one back
use Rattle.std.proofs.Common.{◌≡◌, ℕ, ◌+◌, ◌-◌, ◌<◌, ◌≤◌, Bool, true, false, refl, sym, ap, ◌∙◌, subst, arith, List, [], ◌∷◌, ◌++◌, length, take, drop, get_or}
use Rattle.std.specs.Prelude.{◌||◌, map}
use Rattle.std.specs.List.{range_with_len}
use Rattle.std.proofs.lemmas.List.{take_more, drop_more, take-append-drop}
use Rattle.dd_cards.specs.PlayingCard.{PlayingCard}
use Rattle.dd_cards.specs.Cards.{card_of, has_card, same_card}
use Rattle.dd_cards.specs.declared.suit.Suit.TheVariants.{Spades}
use Rattle.dd_cards.specs.Sides.{side_of, other_side, same_side}
use Rattle.dd_cards.specs.declared.side.Side.{Side}
use Rattle.dd_cards.proofs.CallerLemmas.{is-same, is-other, same-self, same-other, same_card-eq}
use Rattle.dd_play.specs.Board.{Board, IsBoard, mover, tricks_left}
use Rattle.dd_play.specs.Play.{legal}
use Rattle.dd_play.specs.Simulations.{IsLegal}
use Rattle.dd_play.specs.Won.{won}
use Rattle.dd_play.proofs.CallerLemmas.{all, can, least, won_with}
use Rattle.dd_request.specs.Plays.{Play, IsRegular, declarers, position_after, tricks_won, tricks_with, tricks_after, trace}
use Rattle.dd_search.proofs.CallerLemmas.{against, value-within}
use Rattle.dd_request.proofs.CallerLemmas.{Stands, after-append, won-append, regular-front, stands-valid, number-here}

-- the card after the first ones
abbrev pub card_after : Play → ℕ → PlayingCard
card_after play count = get_or play.cards count (card_of Spades 2)

-- it is legal there
next-legal : (play : Play) (count : ℕ) (q : Board) (k : ℕ) → Stands play count q k → count < length play.cards → IsLegal q (card_after play count)
next-legal play count q k s within =
    let split : take count play.cards ++ card_after play count ∷ drop (count + 1) play.cards ≡ play.cards =
    ap (λ rest. take count play.cards ++ rest) (sym (drop_more play.cards count (card_of Spades 2) within)) ∙ take-append-drop count play.cards in
    let both = subst (IsRegular play.opening) (sym split) s.regular in
    subst (λ p. IsLegal p (card_after play count)) (sym s.position) (regular-front play.opening (take count play.cards) (card_after play count ∷ drop (count + 1) play.cards) both).1.0

-- the next number is what was won by then, with what the side takes when that card is played
next-number : (play : Play) (count : ℕ) (q : Board) (k : ℕ) → Stands play count q k → count < length play.cards
    → tricks_after play (count + 1) ≡ k + won_with (declarers play.opening) q (card_after play count)
unfolding tricks_after
next-number play count q k s within =
    let side : Side = declarers play.opening in
    let front : List PlayingCard = take count play.cards in
    let c : PlayingCard = card_after play count in
    let wins : tricks_won side play.opening (front ++ c ∷ []) ≡ tricks_won side play.opening front + tricks_won side (position_after play.opening front) (c ∷ []) = won-append side play.opening front (c ∷ []) in
    let goes : position_after play.opening (front ++ c ∷ []) ≡ position_after (position_after play.opening front) (c ∷ []) = after-append play.opening front (c ∷ []) in
    let here : tricks_with side play.opening (front ++ c ∷ []) ≡ tricks_won side play.opening front + won_with side (position_after play.opening front) c = (rw goes (omega (arith, wins))) in
    ap (tricks_with side play.opening) (take_more play.cards count (card_of Spades 2) within) ∙ here
    ∙ ap (λ n. n + won_with side (position_after play.opening front) c) (sym s.won) ∙ ap (λ p. k + won_with side p c) (sym s.position)

-- the next number is between what was won by then and what can be won in all
pub next-within : (play : Play) (count : ℕ) (q : Board) (k next : ℕ) → Stands play count q k → count < length play.cards → next ≡ tricks_after play (count + 1) → (k ≤ next) × (next ≤ k + tricks_left q)
next-within play count q k next s within is =
    let e = next-number play count q k s within in
    let sum = against (declarers play.opening) q (card_after play count) (stands-valid play count q k s) (next-legal play count q k s within) in
    (omega (arith, e, is), omega (arith, e, is, sum))

-- Where declarer's side is to play it takes at least what the next number says, since its card may be that one.
pub least-declarers : (play : Play) (count : ℕ) (q : Board) (k next : ℕ) → Stands play count q k → count < length play.cards → next ≡ tricks_after play (count + 1)
    → same_side (side_of (mover q)) (declarers play.opening) ≡ true → next - k ≤ won (side_of (mover q)) q
least-declarers play count q k next s within is turn =
    let side : Side = declarers play.opening in
    let e = next-number play count q k s within in
    let reach = can side q (card_after play count) (stands-valid play count q k s) turn (next-legal play count q k s within) in
    let same : won (side_of (mover q)) q ≡ won side q = ap (λ a. won a q) (is-same (side_of (mover q)) side turn) in
    omega (arith, e, is, reach, same)

-- And so do the defenders.
pub least-defenders : (play : Play) (count : ℕ) (q : Board) (k next : ℕ) → Stands play count q k → count < length play.cards → next ≡ tricks_after play (count + 1)
    → same_side (side_of (mover q)) (declarers play.opening) ≡ false → tricks_left q - (next - k) ≤ won (side_of (mover q)) q
least-defenders play count q k next s within is turn =
    let side : Side = declarers play.opening in
    let valid = stands-valid play count q k s in
    let legal = next-legal play count q k s within in
    let e = next-number play count q k s within in
    let mine : Side = side_of (mover q) in
    let other : other_side mine ≡ side = is-other mine side turn in
    let reach = can mine q (card_after play count) valid (same-self mine) legal in
    let sum = against mine q (card_after play count) valid legal in
    let same : won_with (other_side mine) q (card_after play count) ≡ won_with side q (card_after play count) = ap (λ a. won_with a q (card_after play count)) other in
    omega (arith, e, is, reach, sum, same)

-- so the number is what was won by then and what declarer's side takes where it is to play
pub number-declarers : (play : Play) (count : ℕ) (q : Board) (k value : ℕ) → Stands play count q k → value ≡ won (side_of (mover q)) q → same_side (side_of (mover q)) (declarers play.opening) ≡ true
    → k + value ≡ tricks_after play count
number-declarers play count q k value s is turn =
    ap (λ n. k + n) (is ∙ ap (λ a. won a q) (is-same (side_of (mover q)) (declarers play.opening) turn)) ∙ sym (number-here play count q k s)

-- or what the defenders leave where they are
pub number-defenders : (play : Play) (count : ℕ) (q : Board) (k value : ℕ) → Stands play count q k → value ≡ won (side_of (mover q)) q → same_side (side_of (mover q)) (declarers play.opening) ≡ false
    → (value ≤ tricks_left q) × (k + (tricks_left q - value) ≡ tricks_after play count)
number-defenders play count q k value s is turn =
    let mine : Side = side_of (mover q) in
    let sum = all mine q (stands-valid play count q k s) in
    let same : won (other_side mine) q ≡ won (declarers play.opening) q = ap (λ a. won a q) (is-other mine (declarers play.opening) turn) in
    let here = number-here play count q k s in
    (omega (arith, sum, is), omega (arith, sum, is, same, here))

-- a side takes what its mover takes, and no more than are left
pub mover-takes : (side : Side) (p : Board) (value : ℕ) → IsBoard p → value ≡ won (side_of (mover p)) p → same_side (side_of (mover p)) side ≡ true → (value ≡ won side p) × (value ≤ tricks_left p)
mover-takes side p value valid is turn = (is ∙ ap (λ a. won a p) (is-same (side_of (mover p)) side turn), (let most = value-within p valid in omega (arith, is, most)))

-- the other side what its opponents leave
pub other-takes : (side : Side) (p : Board) (value : ℕ) → IsBoard p → value ≡ won (side_of (mover p)) p → same_side (side_of (mover p)) side ≡ false → (value ≤ tricks_left p) × (tricks_left p - value ≡ won side p)
other-takes side p value valid is other =
    let mine : Side = side_of (mover p) in
    let sum = all mine p valid in
    let same : won (other_side mine) p ≡ won side p = ap (λ a. won a p) (is-other mine side other) in
    (omega (arith, sum, is), omega (arith, sum, is, same))

-- ---- a card without a choice

-- a list of one card that has this one is the list of it
one-card : (cards : List PlayingCard) (c : PlayingCard) → length cards ≡ 1 → has_card cards c ≡ true → cards ≡ c ∷ []
one-card [] c one has = absurd (omega (arith, one))
one-card (d ∷ e ∷ cards) c one has = absurd (omega (arith, one))
one-card (d ∷ []) c one has = go (same_card d c) refl has
  where
    go : (b : Bool) → same_card d c ≡ b → (b || false) ≡ true → d ∷ [] ≡ c ∷ []
    go true e h = ap (λ x. x ∷ []) (same_card-eq d c e)
    go false e h = absurd (cc)

-- of one card that is legal
only-legal : (p : Board) (c d : PlayingCard) → legal p ≡ c ∷ [] → IsLegal p d → d ≡ c
only-legal p c d one has = go (same_card c d) refl (subst (λ cards. has_card cards d ≡ true) one has)
  where
    go : (b : Bool) → same_card c d ≡ b → has_card (c ∷ []) d ≡ true → d ≡ c
    go true e h = sym (same_card-eq c d e)
    go false e h = absurd (let no : false ≡ true = rw e at h in cc)

-- a side takes what it takes with the only card that may be played
forced : (side : Side) (p : Board) (c : PlayingCard) → IsBoard p → IsLegal p c → length (legal p) ≡ 1 → won side p ≡ won_with side p c
forced side p c valid has one =
    let mine : Side = side_of (mover p) in
    let others : Side = other_side mine in
    let only : legal p ≡ c ∷ [] = one-card (legal p) c one has in
    let reach = can mine p c valid (same-self mine) has in
    let rest = least others p (won_with others p c) valid (same-other mine) c has (λ d legal. (let same = ap (λ x. won_with others p x) (only-legal p c d only legal) in omega (arith, same))) in
    let sum = all mine p valid in
    let both = against mine p c valid has in
    go (same_side mine side) refl (omega (arith, reach, rest, sum, both)) (omega (arith, reach, rest, sum, both))
  where
    go : (b : Bool) → same_side (side_of (mover p)) side ≡ b → won (side_of (mover p)) p ≡ won_with (side_of (mover p)) p c
        → won (other_side (side_of (mover p))) p ≡ won_with (other_side (side_of (mover p))) p c → won side p ≡ won_with side p c
    go true e own other = subst (λ a. won a p ≡ won_with a p c) (is-same (side_of (mover p)) side e) own
    go false e own other = subst (λ a. won a p ≡ won_with a p c) (is-other (side_of (mover p)) side e) other

-- so the number is the next one
pub number-forced : (play : Play) (count : ℕ) (q : Board) (k next : ℕ) → Stands play count q k → count < length play.cards → next ≡ tricks_after play (count + 1) → length (legal q) ≡ 1
    → next ≡ tricks_after play count
number-forced play count q k next s within is one =
    let same = forced (declarers play.opening) q (card_after play count) (stands-valid play count q k s) (next-legal play count q k s within) one in
    is ∙ next-number play count q k s within ∙ ap (λ n. k + n) (sym same) ∙ sym (number-here play count q k s)

-- ---- the trace from some card on

-- the whole trace
pub trace-whole : (play : Play) (count many : ℕ) (numbers : List ℕ) → numbers ≡ map (tricks_after play) (range_with_len count many) → count ≡ 0 → many ≡ length play.cards + 1 → numbers ≡ trace play
unfolding trace
trace-whole play count many numbers are none all = rw (← none, ← all) are
