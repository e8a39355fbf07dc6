use Rattle.std.proofs.Common.{◌≡◌, ◌≤◌, ℕ, arith, subst, sym}
use Rattle.dd_cards.specs.declared.suit.Suit.{Suit}
use Rattle.dd_cards.specs.declared.suit.Suit.TheVariants.{Spades, Hearts, Diamonds, Clubs}
use Rattle.dd_play.specs.Board.{Board}
use Rattle.dd_quick.specs.QuickTricks.{cashed}
use Rattle.dd_quick.specs.Sharing.{shares}
use Rattle.dd_quick.proofs.second_hand.after_a_side_suit.Goals as goal

-- where there are tricks in the suit, it is cashed
some-cashed : (p : Board) (s h d k : ℕ) (u : Suit) → s ≡ cashed p.strain p Spades → h ≡ cashed p.strain p Hearts → d ≡ cashed p.strain p Diamonds → k ≡ cashed p.strain p Clubs → 1 ≤ shares s h d k u → 1 ≤ cashed p.strain p u
some-cashed p s h d k Spades a b e f some = omega (arith, a, some)
some-cashed p s h d k Hearts a b e f some = omega (arith, b, some)
some-cashed p s h d k Diamonds a b e f some = omega (arith, e, some)
some-cashed p s h d k Clubs a b e f some = omega (arith, f, some)

pub returns-then-need-sure-3 : goal.returns-then-need-sure-3
returns-then-need-sure-3 c = λ p led ready same.
    let o = c.args.before.now in
    let of = c.leaders-sure.result.cashed in
    let all = c.leaders-sure.ensures in
    let first = c.tricks_in-first.ensures in
    let none = c.if-first-eq0.false in
    let some : 1 ≤ shares of.spades.tricks of.hearts.tricks of.diamonds.tricks of.clubs.tricks c.args.suit = omega (arith, first, none) in
    c.crossing_cards.ensures.after_a_lead p led ready (subst (λ u. 1 ≤ cashed o.strain o u) (sym same) (some-cashed o _ _ _ _ c.args.suit all.spades.0 all.hearts.0 all.diamonds.0 all.clubs.0 some))
