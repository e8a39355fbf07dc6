-- from the tricks of North and South after a card to the card's score
use Rattle.std.proofs.Common.{◌≡◌, ℕ, ◌+◌, ◌-◌, ◌<◌, ◌≤◌, Bool, true, false, refl, sym, ap, ◌∙◌, arith, Option, Some, None, inl, inr}
use Rattle.std.specs.Prelude.{nat_le, ◌&&◌, if◌then◌else◌}
use Rattle.std.proofs.lemmas.Bool.{le-leb, lt-leb, leb-true, leb-false}
use Rattle.std.proofs.lemmas.Bool.Decides.{leb_tells}
use mathlib.Core.Bool.{beq}
use Rattle.dd_cards.specs.declared.seat.Seat.{Seat}
use Rattle.dd_cards.specs.PlayingCard.{PlayingCard}
use Rattle.dd_cards.specs.Seats.{is_north_south}
use Rattle.dd_cards.specs.Sides.{is_side}
use Rattle.dd_cards.specs.declared.side.Side.TheVariants.{NorthSouth, EastWest}
use Rattle.dd_play.specs.Board.{Board, IsBoard, mover, tricks_left}
use Rattle.dd_play.specs.Tricks.{winner_of}
use Rattle.dd_play.specs.Play.{completes, trick_with, after}
use Rattle.dd_play.specs.Value.{north_souths_trick, gain, ns, ns_with, score}
use Rattle.dd_play.specs.Claims.{Takes}
use Rattle.dd_play.specs.Won.{trick_for}
use Rattle.dd_play.specs.Simulations.{IsLegal}
use Rattle.dd_play.proofs.CallerLemmas.{exactly, gain-le, left-13, legal-leads, ns-le}
use Rattle.dd_search.specs.ClaimsBy.{IsAnswer}

-- what a search learns of a card: the tricks that North and South take after it, and the one that it completes
pub record Learnt (p q : Board) (c : PlayingCard) (tricks trick_for : ℕ) (winner : Option Seat) : Type 0 where
  pub valid : IsBoard p
  pub valid_next : IsBoard q
  pub legal : IsLegal p c
  pub next : q ≡ after p c
  pub theirs : Takes NorthSouth q tricks
  pub others : Takes EastWest q (tricks_left q - tricks)
  pub within : tricks ≤ tricks_left q
  pub is_point : trick_for ≡ north_souths_trick winner
  pub wins : winner ≡ (if completes p then Some (winner_of (trick_with p c) p.first p.strain) else None)

-- the point of the seat that wins is what the card gains
point-gain : (p : Board) (c : PlayingCard) → north_souths_trick (if completes p then Some (winner_of (trick_with p c) p.first p.strain) else None) ≡ gain p c
point-gain p c = go (completes p) (winner_of (trick_with p c) p.first p.strain)
  where
    go : (b : Bool) (seat : Seat) → north_souths_trick (if b then Some seat else None) ≡ (if b && is_north_south seat then 1 else 0)
    go true seat = refl
    go false seat = refl

-- what is still needed after a card, and the point that the card gains, are what was needed before
pub needed-after : (p : Board) (c : PlayingCard) (rest need : ℕ) (winner : Option Seat) → rest + north_souths_trick winner ≡ need
    → winner ≡ (if completes p then Some (winner_of (trick_with p c) p.first p.strain) else None) → rest + trick_for NorthSouth p c ≡ need
needed-after p c rest need winner sum wins = ap (λ n. rest + n) (sym (won-point p c) ∙ sym (ap north_souths_trick wins)) ∙ sum
  where
    go : (b : Bool) (seat : Seat) → north_souths_trick (if b then Some seat else None) ≡ (if b && is_side NorthSouth seat then 1 else 0)
    go true seat = refl
    go false seat = refl

    won-point : (p : Board) (c : PlayingCard) → north_souths_trick (if completes p then Some (winner_of (trick_with p c) p.first p.strain) else None) ≡ trick_for NorthSouth p c
    won-point p c = go (completes p) (winner_of (trick_with p c) p.first p.strain)

-- North and South take no more tricks with a card than are left
ns_with-le : (p : Board) (c : PlayingCard) → IsBoard p → IsLegal p c → ns_with p c ≤ tricks_left p
ns_with-le p c valid has =
    let next = legal-leads p c valid has in
    let rest = ns-le (after p c) next.valid in
    let one = gain-le (completes p) (is_north_south (winner_of (trick_with p c) p.first p.strain)) in
    let tricks = next.tricks in
    omega (arith, rest, one, tricks)

-- together they are what North and South take with the card
learnt-value : (p q : Board) (c : PlayingCard) (tricks trick_for : ℕ) (winner : Option Seat) → Learnt p q c tricks trick_for winner → tricks + trick_for ≡ ns_with p c
learnt-value p q c tricks trick_for winner k =
    let within = k.within in
    let value : ns q ≡ tricks = exactly NorthSouth q tricks (tricks_left q - tricks) k.valid_next k.theirs k.others (omega (arith, within)) in
    let after_it : ns q ≡ ns (after p c) = ap ns k.next in
    let gained : trick_for ≡ gain p c = k.is_point ∙ ap north_souths_trick k.wins ∙ point-gain p c in
    omega (arith, value, after_it, gained)

-- and no more than are left
pub learnt-within : (p q : Board) (c : PlayingCard) (tricks trick_for : ℕ) (winner : Option Seat) → Learnt p q c tricks trick_for winner → tricks + trick_for ≤ tricks_left p
learnt-within p q c tricks trick_for winner k =
    let within = k.within in
    let same : tricks_left q ≡ tricks_left (after p c) = ap tricks_left k.next in
    let fewer = (legal-leads p c k.valid k.legal).tricks in
    let gained : trick_for ≡ gain p c = k.is_point ∙ ap north_souths_trick k.wins ∙ point-gain p c in
    let one = gain-le (completes p) (is_north_south (winner_of (trick_with p c) p.first p.strain)) in
    omega (arith, within, same, fewer, gained, one)

-- a position has at most thirteen tricks left
pub learnt-13 : (p q : Board) (c : PlayingCard) (tricks trick_for : ℕ) (winner : Option Seat) → Learnt p q c tricks trick_for winner → tricks + trick_for ≤ 13
learnt-13 p q c tricks trick_for winner k = let a = learnt-within p q c tricks trick_for winner k in let b = left-13 p k.valid in omega (arith, a, b)

-- the score of a card of North or South
pub learnt-north-south : (p q : Board) (c : PlayingCard) (tricks trick_for : ℕ) (winner : Option Seat) → Learnt p q c tricks trick_for winner → is_north_south (mover p) ≡ true → tricks + trick_for ≡ score p c
learnt-north-south p q c tricks trick_for winner k e = rw e (learnt-value p q c tricks trick_for winner k)

-- and of East or West
pub learnt-east-west : (p q : Board) (c : PlayingCard) (tricks trick_for : ℕ) (winner : Option Seat) → Learnt p q c tricks trick_for winner → is_north_south (mover p) ≡ false → tricks_left p - (tricks + trick_for) ≡ score p c
learnt-east-west p q c tricks trick_for winner k e = rw e (ap (λ n. tricks_left p - n) (learnt-value p q c tricks trick_for winner k))

-- ---- one question

-- two tests that hold together and fail together
same-test : (a b m n : ℕ) → (a ≤ b → m ≤ n) → (b < a → n < m) → nat_le a b ≡ nat_le m n
same-test a b m n holds fails = elim (leb_tells a b) [
  | inl h ↦ h.0 ∙ sym (le-leb m n (holds h.1))
  | inr h ↦ h.0 ∙ sym (lt-leb m n (fails h.1))
]

-- an answer says whether North and South take so many
pub answer-tells : (p : Board) (need : ℕ) (said : Bool) → IsBoard p → IsAnswer p need said → said ≡ nat_le need (ns p)
answer-tells p need true valid h = sym (le-leb need (ns p) h)
answer-tells p need false valid h = let most = ns-le p valid in sym (lt-leb need (ns p) (omega (arith, h, most)))

-- what was asked of a card: do North and South take `need` with it? It was asked after the card, of what they still need.
pub record AskedOf (p q : Board) (c : PlayingCard) (need rest trick_for : ℕ) (winner : Option Seat) (said : Bool) : Type 0 where
  pub valid : IsBoard p
  pub valid_next : IsBoard q
  pub legal : IsLegal p c
  pub next : q ≡ after p c
  pub is_point : trick_for ≡ north_souths_trick winner
  pub wins : winner ≡ (if completes p then Some (winner_of (trick_with p c) p.first p.strain) else None)
  pub is_rest : rest ≡ need - trick_for
  pub answer : IsAnswer q rest said

-- the answer is theirs with the card
asked-tells : (p q : Board) (c : PlayingCard) (need rest trick_for : ℕ) (winner : Option Seat) (said : Bool) → AskedOf p q c need rest trick_for winner said → said ≡ nat_le need (ns_with p c)
asked-tells p q c need rest trick_for winner said k =
    let after_it : ns q ≡ ns (after p c) = ap ns k.next in
    let gained : trick_for ≡ gain p c = k.is_point ∙ ap north_souths_trick k.wins ∙ point-gain p c in
    let still = k.is_rest in
    answer-tells q rest said k.valid_next k.answer ∙ same-test rest (ns q) need (ns_with p c) (λ h. omega (arith, h, after_it, gained, still)) (λ h. omega (arith, h, after_it, gained, still))

-- whether a card of North or South scores so much
pub asked-north-south : (p q : Board) (c : PlayingCard) (tricks need rest trick_for : ℕ) (winner : Option Seat) (said b : Bool) → AskedOf p q c need rest trick_for winner said → b ≡ is_north_south (mover p)
    → b ≡ true → need ≡ tricks → beq said b ≡ nat_le tricks (score p c)
asked-north-south p q c tricks need rest trick_for winner said b k side e is =
    let turn : is_north_south (mover p) ≡ true = sym side ∙ e in
    rw (e, turn) (same said ∙ asked-tells p q c need rest trick_for winner said k ∙ ap (λ n. nat_le n (ns_with p c)) is)
  where
    same : (x : Bool) → beq x true ≡ x
    same true = refl
    same false = refl

-- where x is whether North and South take one more than the rest, its contrary is whether the others take n
pub not-the-rest : (x : Bool) (tricks m n : ℕ) → m ≤ n → x ≡ nat_le (n + 1 - tricks) m → beq x false ≡ nat_le tricks (n - m)
not-the-rest true tricks m n h same = let reach = leb-true (n + 1 - tricks) m (sym same) in sym (lt-leb tricks (n - m) (omega (arith, reach, h)))
not-the-rest false tricks m n h same = let less = leb-false (n + 1 - tricks) m (sym same) in sym (le-leb tricks (n - m) (omega (arith, less, h)))

-- and a card of East or West, where it is asked whether North and South take one more than East and West then leave
pub asked-east-west : (p q : Board) (c : PlayingCard) (tricks need rest trick_for : ℕ) (winner : Option Seat) (said b : Bool) → AskedOf p q c need rest trick_for winner said → b ≡ is_north_south (mover p)
    → b ≡ false → need ≡ tricks_left p + 1 - tricks → beq said b ≡ nat_le tricks (score p c)
asked-east-west p q c tricks need rest trick_for winner said b k side e is =
    let turn : is_north_south (mover p) ≡ false = sym side ∙ e in
    let most = ns_with-le p c k.valid k.legal in
    rw (e, turn) (not-the-rest said tricks (ns_with p c) (tricks_left p) most (asked-tells p q c need rest trick_for winner said k ∙ ap (λ n. nat_le n (ns_with p c)) is))
