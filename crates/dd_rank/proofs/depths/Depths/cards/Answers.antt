use Rattle.std.proofs.Common.{◌≡◌, ℕ, ◌≤◌, ap, ◌∙◌, arith, List, length, true}
use Rattle.std.specs.Prelude.{filter, ◌&&◌}
use Rattle.dd_cards.specs.declared.suit.Suit.{Suit}
use Rattle.dd_cards.specs.declared.suit.Suit.TheVariants.{Spades, Hearts, Diamonds, Clubs}
use Rattle.dd_cards.specs.PlayingCard.{PlayingCard}
use Rattle.dd_cards.specs.Cards.{is_of, has_card}
use Rattle.dd_cards.specs.Hands.{IsSet}
use Rattle.dd_cards.proofs.CallerLemmas.{times-set}
use Rattle.dd_play.specs.Board.{Board, IsBoard}
use Rattle.dd_play.specs.Covers.{count_of}
use Rattle.dd_play.specs.Reach.{reach}
use Rattle.dd_rank.specs.Depths.{all_cards, depths_of, FourDepths, depth_in}
use Rattle.dd_rank.proofs.Looked.{all-once}
use Rattle.dd_rank.proofs.Lowest.{IsPicked, same-count, depth-picked}
use Rattle.dd_rank.proofs.depths.Depths.cards.Goals as goal

-- a depth is at most the number of the suit's cards in the set
within : (p q : Board) (all : List PlayingCard) (d : FourDepths) (u : Suit) (n : ℕ) → IsBoard q → q ≡ p → IsSet all → ((c : PlayingCard) → has_card all c ≡ has_card (all_cards q) c) → ((u : Suit) → depth_in d u ≤ count_of u (all_cards p)) → n ≡ depth_in d u → n ≤ count_of u all
within p q all d u n valid is set same most e =
    let k = same-count (is_of u) all (all_cards q) (λ c. times-set all c set) (all-once q valid) same in
    let m = most u in
    let s : count_of u (all_cards q) ≡ count_of u (all_cards p) = ap (λ (b : Board). count_of u (all_cards b)) is in
    omega (arith, k, m, s, e)

-- the depths of all four suits
by-suits : (p q : Board) (all cards : List PlayingCard) (d : FourDepths) → IsBoard q → q ≡ p → IsSet all → ((c : PlayingCard) → has_card all c ≡ has_card (all_cards q) c)
    → d.spades ≤ length (filter (λ x. is_of Spades x && reach cards x) all) → d.hearts ≤ length (filter (λ x. is_of Hearts x && reach cards x) all) → d.diamonds ≤ length (filter (λ x. is_of Diamonds x && reach cards x) all) → d.clubs ≤ length (filter (λ x. is_of Clubs x && reach cards x) all)
    → (u : Suit) → depth_in d u ≤ depths_of (reach cards) p u
by-suits p q all cards d valid is set same sp he di cl u = go u
  where
    count : (u : Suit) → length (filter (λ x. is_of u x && reach cards x) all) ≡ depths_of (reach cards) p u
    count u = same-count (λ x. is_of u x && reach cards x) all (all_cards q) (λ c. times-set all c set) (all-once q valid) same ∙ ap (λ (r : Board). depths_of (reach cards) r u) is

    go : (u : Suit) → depth_in d u ≤ depths_of (reach cards) p u
    go Spades = (let k = count Spades in omega (arith, sp, k))
    go Hearts = (let k = count Hearts in omega (arith, he, k))
    go Diamonds = (let k = count Diamonds in omega (arith, di, k))
    go Clubs = (let k = count Clubs in omega (arith, cl, k))

pub returns-clause-depths : goal.returns-clause-depths
returns-clause-depths c =
    by-suits p q all cards d c.cards_left-all.ensures.board c.position.ensures.value c.cards_left-all.ensures.set c.cards_left-all.ensures.cards
    (deep Spades c.of.result c.of.ensures c.at_depth-spades.result (record { card = c.at_depth-spades.ensures.card; some = c.at_depth-spades.ensures.some }) (λ x h. c.union-cards.ensures.left x (c.union.ensures.left x h)))
    (deep Hearts c.of-2.result c.of-2.ensures c.at_depth-hearts.result (record { card = c.at_depth-hearts.ensures.card; some = c.at_depth-hearts.ensures.some }) (λ x h. c.union-cards.ensures.left x (c.union.ensures.right x h)))
    (deep Diamonds c.of-3.result c.of-3.ensures c.at_depth-diamonds.result (record { card = c.at_depth-diamonds.ensures.card; some = c.at_depth-diamonds.ensures.some }) (λ x h. c.union-cards.ensures.right x (c.union-2.ensures.left x h)))
    (deep Clubs c.of-4.result c.of-4.ensures c.at_depth-clubs.result (record { card = c.at_depth-clubs.ensures.card; some = c.at_depth-clubs.ensures.some }) (λ x h. c.union-cards.ensures.right x (c.union-2.ensures.right x h)))
  where
    p : Board
    p = c.args.start.now

    q : Board
    q = c.position.result.now

    d : FourDepths
    d = c.args.self

    all : List PlayingCard
    all = c.cards_left-all.result

    cards : List PlayingCard
    cards = c.union-cards.result

    deep : (u : Suit) (n : ℕ) → n ≡ depth_in d u → (picked : List PlayingCard) → IsPicked u all picked n → ((x : PlayingCard) → has_card picked x ≡ true → has_card cards x ≡ true) → depth_in d u ≤ length (filter (λ x. is_of u x && reach cards x) all)
    deep u n e picked is there =
        let enough = within p q all d u n c.cards_left-all.ensures.board c.position.ensures.value c.cards_left-all.ensures.set c.cards_left-all.ensures.cards c.requires e in
        let k = depth-picked u all picked cards n is enough there in
        omega (arith, e, k)
