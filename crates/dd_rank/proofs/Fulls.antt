-- full depths, and a position's own
use Rattle.std.proofs.Common.{◌≡◌, ℕ, ◌≤◌, Bool, true, refl, sym, ap, ◌∙◌, arith, [], inl, inr}
use Rattle.std.specs.Prelude.{nat_lt}
use Rattle.std.proofs.lemmas.Bool.{lt-ltb, false_from_ne_true}
use Rattle.dd_cards.specs.declared.seat.Seat.{Seat}
use Rattle.dd_cards.specs.declared.suit.Suit.{Suit}
use Rattle.dd_cards.specs.PlayingCard.{PlayingCard}
use Rattle.dd_cards.specs.Cards.{is_of, has_card}
use Rattle.dd_cards.specs.Seats.{seat_code}
use Rattle.dd_cards.specs.Sides.{side_of}
use Rattle.dd_play.specs.Board.{Board, IsBoard, cards_at}
use Rattle.dd_play.specs.Value.{leaders_tricks}
use Rattle.dd_play.specs.Covers.{count_of}
use Rattle.dd_play.proofs.CallerLemmas.{card-real, of-suit', reply', same-or, above-suit, above-rank}
use Rattle.dd_rank.specs.Alike.{AreAlike}
use Rattle.dd_rank.specs.Depths.{all_cards, place, Covers}
use Rattle.dd_rank.proofs.AlikeLead.{alike-lead}
use Rattle.dd_rank.proofs.Places.{count-lt}
use Rattle.dd_rank.proofs.Covered.{all-in, IsTopOf, to_of, covers-cover}
use Rattle.dd_cards.specs.Sequences.{is_above}

-- a position covers itself
pub itself : (p : Board) (depths : Suit → ℕ) → p.trick ≡ [] → ((u : Suit) → depths u ≤ count_of u (all_cards p)) → Covers p depths p
itself p depths start most = (
  0,
  record {
    start_p = start;
    start_q = start;
    strain = refl;
    first = refl;
    most = most;
    lengths = λ x u. refl;
    forth = λ x c h low. (c, h, refl, refl);
    back = λ x d h low. (d, h, refl, refl);
  },
)

-- every card of the pack
abbrev pub any_rank : PlayingCard → Bool
any_rank c = nat_lt 0 c.rank

-- each card left is within the full depths
full-top : (p : Board) (depths : Suit → ℕ) → IsBoard p → ((u : Suit) → depths u ≡ count_of u (all_cards p)) → IsTopOf any_rank depths p
full-top p depths valid full = (
  λ c has. (
      let x = all-in p c has in
      let real = (card-real p x.0 c valid x.1).0 in
      let k = count-lt (is_above c) (is_of c.suit) (all_cards p) (λ e t. of-suit' c.suit e (above-suit c e t)) c has (of-suit' c.suit c refl) (false_from_ne_true _ (λ t. let r = above-rank c c t in omega (arith, r))) in
      let f = full c.suit in
      lt-ltb 0 c.rank (omega (arith, real)) ∙ sym (lt-ltb (place p c) (depths c.suit) (omega (arith, k, f)))),
  λ u. refl,
)

-- Full depths cover only alike positions.
pub full-alike : (p q : Board) (depths : Suit → ℕ) → IsBoard p → IsBoard q → ((u : Suit) → depths u ≡ count_of u (all_cards p)) → Covers p depths q → AreAlike p q
full-alike p q depths valid_p valid_q full a =
    let r = covers-cover any_rank a.0 depths p q (full-top p depths valid_p full) valid_p valid_q a.1 in
    let real = λ (x : Seat) (c : PlayingCard) (h : has_card (cards_at p x) c ≡ true). (let l = (card-real p x c valid_p h).0 in lt-ltb 0 c.rank (omega (arith, l))) in (
      a.0,
      to_of p q,
      to_of q p,
      record {
        start_p = a.1.start_p;
        start_q = a.1.start_q;
        strain = a.1.strain;
        first = a.1.first;
        to_suit = r.0.to_suit;
        from_suit = r.0.from_suit;
        forth = λ x c h. r.0.forth x c h (real x c h);
        back = λ x d h. r.0.back x d h (let c = reply' any_rank a.0 (to_of p q) (to_of q p) (side_of p.first) p (side_of q.first) q r.0 x d h in c.2.kind ∙ real x c.0 c.1);
        order = λ x y c d hc hd suits. elim (same-or x y) [
          | inl e ↦ r.1.keeps y c d (ap (λ z. has_card (cards_at p z) c) (sym e) ∙ hc) hd (real x c hc) (real y d hd) suits
          | inr e ↦ r.0.keeps.hands x y c d (λ z. e (ap seat_code z)) hc hd (real x c hc) (real y d hd) suits
        ];
      },
    )

-- so they have one value
pub full-lead : (p q : Board) (depths : Suit → ℕ) → IsBoard p → IsBoard q → ((u : Suit) → depths u ≡ count_of u (all_cards p)) → Covers p depths q → leaders_tricks q ≡ leaders_tricks p
full-lead p q depths valid_p valid_q full a = alike-lead p q valid_p valid_q (full-alike p q depths valid_p valid_q full a)
