-- the card that completes a trick, as code plays it
use Rattle.std.proofs.Common.{◌≡◌, ℕ, ◌≤◌, Bool, true, false, refl, sym, ap, ◌∙◌, subst, arith, List, [], ◌∷◌, length, get_or}
use Rattle.std.specs.Prelude.{filter, take, slice_index_or}
use mathlib.Core.Path.{ap₂}
use Rattle.dd_cards.specs.declared.seat.Seat.{Seat}
use Rattle.dd_cards.specs.declared.seat.Seat.TheVariants.{North, West}
use Rattle.dd_cards.specs.declared.strain.Strain.{Strain}
use Rattle.dd_cards.specs.PlayingCard.{PlayingCard}
use Rattle.dd_cards.specs.Cards.{has_card, is_of, same_card, with_card, without}
use Rattle.dd_cards.specs.Hands.{dealt}
use Rattle.dd_cards.specs.Seats.{seat_code}
use Rattle.dd_cards.proofs.CallerLemmas.{has_card-without, seat_code-lt}
use Rattle.dd_play.specs.Board.{Board, IsBoard, cards_at, tricks_left}
use Rattle.dd_play.specs.Covers.{IsSettled, count_of}
use Rattle.dd_play.specs.Tricks.{winner_of}
use Rattle.dd_play.specs.Play.{after, trick_with}
use Rattle.dd_play.specs.Simulations.{IsLegal}
use Rattle.dd_play.proofs.CallerLemmas.{IsFour, count, filter-has, legal-leads, settled-alone, settled-by-top}
use Rattle.dd_rank.specs.Alike.{AreAlike, IsAlike}
use Rattle.dd_relative.specs.Relative.{IsRelative, led_by_north}
use Rattle.dd_relative.specs.Turned.{from_seat}
use Rattle.dd_relative.specs.UnderWay.{under_way, IsUnderWay}
use Rattle.dd_relative.proofs.Lefts.{start-tricks}
use Rattle.dd_relative.proofs.Turned.{alike-turned}
use Rattle.dd_relative.proofs.UnderWay.{IsFinish, finish-from, lie-number, list-once, list-same, three-are}
use Rattle.std.proofs.lemmas.Bool.{and_from, not_from_false, true_from_ne_false}
use Rattle.dd_rank.proofs.CallerLemmas.{count-le}

-- three cards lie on the trick, and a fourth may be played
pub record IsFourth (b p : Board) (x y z d : PlayingCard) : Type 0 where
  pub relative : IsRelative b
  pub under : IsUnderWay b (x ∷ y ∷ z ∷ [])
  pub here : under_way b (x ∷ y ∷ z ∷ []) ≡ p
  pub legal : IsLegal p d

-- .. from the cards as they are kept
pub fourth : (b p : Board) (cards : List PlayingCard) (n : ℕ) (x y z d : PlayingCard) → IsRelative b → length cards ≡ 3 → n ≤ 3 → IsUnderWay b (take n cards)
    → under_way b (take n cards) ≡ p → length p.trick ≡ 3 → IsLegal p d → IsFourth b p (slice_index_or cards 0 x) (slice_index_or cards 1 y) (slice_index_or cards 2 z) d
fourth b p cards n x y z d relative three most under view full has =
    let number : n ≡ 3 = lie-number b cards n 3 relative three most (ap (λ (q : Board). length q.trick) view ∙ full) in
    let list : take n cards ≡ slice_index_or cards 0 x ∷ slice_index_or cards 1 y ∷ slice_index_or cards 2 z ∷ [] = three-are cards n x y z three number in
    record { relative = relative; under = subst (IsUnderWay b) list under; here = ap (under_way b) (sym list) ∙ view; legal = has }

module _ (b p : Board) (x y z d : PlayingCard) (f : IsFourth b p x y z d) where
  -- it may be played to the board written out
  here-legal : IsLegal (under_way b (x ∷ y ∷ z ∷ [])) d
  here-legal = subst (λ (q : Board). IsLegal q d) (sym f.here) f.legal

  -- a board
  pub is-board : IsBoard p
  is-board = subst IsBoard f.here f.under.board

  -- .. and so is the next
  pub next-board : IsBoard (after p d)
  next-board = (legal-leads p d is-board f.legal).valid

  pub next-start : (after p d).trick ≡ []
  next-start = subst (λ (q : Board). (after q d).trick ≡ []) f.here refl

  -- the trick, its leader and the strain
  pub trick-is : trick_with p d ≡ x ∷ y ∷ z ∷ d ∷ []
  trick-is = subst (λ (q : Board). trick_with q d ≡ x ∷ y ∷ z ∷ d ∷ []) f.here refl

  pub leader-is : North ≡ p.first
  leader-is = ap (λ (q : Board). q.first) f.here

  strain-is : b.strain ≡ p.strain
  strain-is = ap (λ (q : Board). q.strain) f.here

  -- the winner leads next
  pub first-is : (after p d).first ≡ winner_of (trick_with p d) p.first p.strain
  first-is = subst (λ (q : Board). (after q d).first ≡ winner_of (trick_with q d) q.first q.strain) f.here refl

  pub winner-is : (strain : Strain) (seat : Seat) → strain ≡ b.strain → seat ≡ winner_of (x ∷ y ∷ z ∷ d ∷ []) North strain → seat ≡ winner_of (trick_with p d) p.first p.strain
  winner-is strain seat same wins =
      wins ∙ ap (winner_of (x ∷ y ∷ z ∷ d ∷ []) North) (same ∙ strain-is) ∙ ap₂ (λ trick first. winner_of trick first p.strain) (sym trick-is) leader-is

  -- each hand has one card fewer
  pub tricks-with : (hand left : List PlayingCard) → hand ≡ cards_at b West → left ≡ without hand d → length left ≡ tricks_left (after p d)
  tricks-with hand left is gone =
      let here : without (cards_at b West) d ≡ cards_at (after (under_way b (x ∷ y ∷ z ∷ [])) d) West = refl in
      let same : left ≡ cards_at (after p d) West = gone ∙ ap (λ l. without l d) is ∙ here ∙ ap (λ (q : Board). cards_at (after q d) West) f.here in
      ap length same ∙ start-tricks (after p d) next-board next-start West

  -- the hands, the winner and the gaps
  pub finished : (l s t w gaps : List PlayingCard) (strain : Strain) (seat : Seat)
      → dealt l s t w ≡ from_seat (dealt (without b.hands.north x) (without b.hands.east y) (without b.hands.south z) (without b.hands.west d)) seat → strain ≡ b.strain → seat ≡ (after p d).first
      → gaps ≡ x ∷ y ∷ z ∷ d ∷ [] → IsFinish p d l s t w gaps strain seat
  finished l s t w gaps strain seat hands same first are =
      subst (λ (q : Board). IsFinish q d l s t w gaps strain seat) f.here
      (finish-from b x y z d l s t w gaps strain seat f.relative f.under here-legal hands same (wins seat first) are)
    where
      wins : (seat : Seat) → seat ≡ (after p d).first → seat ≡ winner_of (x ∷ y ∷ z ∷ d ∷ []) North strain
      wins seat first = first ∙ ap (λ (q : Board). (after q d).first) (sym f.here) ∙ ap (winner_of (x ∷ y ∷ z ∷ d ∷ []) North) (sym same)

  -- the winning card among the four
  four-is : (seat : Seat) (place : ℕ) (won : PlayingCard) → seat ≡ (after p d).first → place ≡ seat_code seat → won ≡ get_or (x ∷ y ∷ z ∷ d ∷ []) place d
      → IsFour p d (x ∷ y ∷ z ∷ d ∷ []) North seat place won
  four-is seat place won first at is = (trick-is, leader-is, first ∙ first-is, (let m = seat_code-lt seat in omega (arith, at, m)), is)

  -- .. settles the trick
  pub settled-top : (seat : Seat) (place : ℕ) (won : PlayingCard) → seat ≡ (after p d).first → place ≡ seat_code seat → won ≡ get_or (x ∷ y ∷ z ∷ d ∷ []) place d
      → (top : PlayingCard → Bool) → top won ≡ true → IsSettled top p d
  settled-top seat place won first at is = settled-by-top p d (x ∷ y ∷ z ∷ d ∷ []) North seat place won is-board f.legal refl (four-is seat place won first at is)

  pub settled-one : (seat : Seat) (place : ℕ) (won : PlayingCard) → seat ≡ (after p d).first → place ≡ seat_code seat → won ≡ get_or (x ∷ y ∷ z ∷ d ∷ []) place d
      → count_of won.suit (x ∷ y ∷ z ∷ d ∷ []) ≤ 1 → (top : PlayingCard → Bool) → IsSettled top p d
  settled-one seat place won first at is few = settled-alone p d (x ∷ y ∷ z ∷ d ∷ []) North seat place won is-board f.legal refl (four-is seat place won first at is) few

  -- where it has no other of its suit beside it on the trick, it is the only one
  pub one-of-suit : (cards others : List PlayingCard) (won : PlayingCard) → cards ≡ with_card (with_card (with_card (with_card [] x) y) z) d → others ≡ without (filter (is_of won.suit) cards) won → others ≡ []
      → count_of won.suit (x ∷ y ∷ z ∷ d ∷ []) ≤ 1
  one-of-suit cards others won are left none =
      let few = count-le (is_of won.suit) (λ c. same_card c won) (x ∷ y ∷ z ∷ d ∷ []) same in
      let once : count (λ c. same_card c won) (x ∷ y ∷ z ∷ d ∷ []) ≤ 1 = list-once b x y z d f.relative f.under here-legal won in
      omega (arith, few, once)
    where
      same : (c : PlayingCard) → has_card (x ∷ y ∷ z ∷ d ∷ []) c ≡ true → is_of won.suit c ≡ true → same_card c won ≡ true
      same c there of = true_from_ne_false (same_card c won) (λ other.
          let set : has_card cards c ≡ true = ap (λ l. has_card l c) are ∙ sym (list-same b x y z d f.relative f.under here-legal c) ∙ there in
          let suited : has_card (filter (is_of won.suit) cards) c ≡ true = filter-has (is_of won.suit) cards c set of in
          let rest : has_card others c ≡ true = ap (λ l. has_card l c) left ∙ has_card-without (filter (is_of won.suit) cards) won c ∙ and_from _ _ (not_from_false _ other) suited in
          let no : true ≡ false = sym rest ∙ ap (λ l. has_card l c) none in cc)

-- what is like the hands from the winner on is like the next board
pub finish-alike : (p : Board) (d : PlayingCard) (l s t w gaps : List PlayingCard) (strain : Strain) (seat : Seat) (next result : Board) → IsFinish p d l s t w gaps strain seat
    → IsAlike (led_by_north l s t w strain) next → result ≡ next → AreAlike (after p d) result
finish-alike p d l s t w gaps strain seat next result f alike same =
    subst (λ (q : Board). AreAlike (after p d) q) (sym same) (alike-turned (after p d) next f.start (subst (λ (b : Board). IsAlike b next) f.same alike))
