use Rattle.std.proofs.Common.{◌≡◌, ◌≤◌, ◌+◌, ◌-◌, ◌∙◌, ◌⊎◌, ℕ, Bool, List, ap, arith, false, inl, inr, min, refl, subst, sym, true}
use Rattle.std.specs.Prelude.{◌||◌}
use Rattle.dd_cards.specs.declared.suit.Suit.{Suit}
use Rattle.dd_cards.specs.declared.suit.Suit.TheVariants.{Spades, Hearts, Diamonds, Clubs}
use Rattle.dd_cards.specs.PlayingCard.{PlayingCard}
use Rattle.dd_cards.specs.Cards.{has_card}
use Rattle.dd_cards.specs.Seats.{seat_after}
use Rattle.dd_cards.specs.Sides.{side_of}
use Rattle.dd_play.specs.Board.{Board}
use Rattle.dd_play.specs.Reach.{TakesBy, reach}
use Rattle.dd_quick.specs.QuickTricks.{RestsOnNext, RestsOnTrumps, cashed, is_entry, joint_trumps, next_run, partners_cashed, trumps_at}
use Rattle.dd_quick.specs.Sharing.{shares}
use Rattle.dd_quick.proofs.Across.{RestsAcross, across-by}
use Rattle.dd_quick.proofs.AcrossClaims.{IsNextShared, across-rests, next-more}
use Rattle.dd_quick.proofs.Cashing.{total}
use Rattle.dd_quick.proofs.Claims.{cashed-share}
use Rattle.dd_quick.proofs.SecondAcross.{second-across}
use Rattle.dd_quick.proofs.told_shares.told_across.Goals as goal
use Rattle.dd_quick.proofs.told_shares.told_across.Goals.{In_ok-cards}

-- and of the partner's tricks
shared : (p : Board) (u : Suit) (few many : List PlayingCard) (n : ℕ) → n ≤ partners_cashed p.strain p u → RestsOnNext p u few n → ((e : PlayingCard) → has_card few e ≡ true → has_card many e ≡ true) → IsNextShared p u many (is_entry p u) n
shared p u few many n less rests more = record { tricks = partners_cashed p.strain p u; next = (refl, refl); few = less; rests = next-more p u few many n more rests }

-- where one of four is true, what follows from one of them
one-of : (a b d e : Bool) (A B D E : Type 0) → ((a || b) || (d || e)) ≡ true → (a ≡ true → A) → (b ≡ true → B) → (d ≡ true → D) → (e ≡ true → E) → (A ⊎ B) ⊎ (D ⊎ E)
one-of true b d e A B D E is f g h k = inl (inl (f refl))
one-of false true d e A B D E is f g h k = inl (inr (g refl))
one-of false false true e A B D E is f g h k = inr (inl (h refl))
one-of false false false true A B D E is f g h k = inr (inr (k refl))
one-of false false false false A B D E is f g h k = absurd (cc)

-- what the leader cashes, and its partner
abbrev mine : In_ok-cards → Suit → ℕ
mine c = shares c.args.told.spades c.args.told.hearts c.args.told.diamonds c.args.told.clubs

abbrev his : In_ok-cards → Suit → ℕ
his c = shares c.args.next.spades c.args.next.hearts c.args.next.diamonds c.args.next.clubs

abbrev side : In_ok-cards → ℕ
side c = c.args.told.spades + c.args.told.hearts + c.args.told.diamonds + c.args.told.clubs + (c.args.next.spades + c.args.next.hearts + c.args.next.diamonds + c.args.next.clubs)

rests : (c : In_ok-cards) → (x : Suit) × RestsAcross (reach c.in_ok-cards.cards) c.args.position.now (mine c) (λ u. min (his c u) (next_run c.args.position.now u)) (his c) x (c.args.need - side c)
rests c =
    let p = c.args.position.now in
    let t = c.args.told in
    let n = c.args.next in
    let s = c.in_ok-spades in
    let h = c.in_ok-hearts in
    let d = c.in_ok-diamonds in
    let k = c.in_ok-clubs in
    let a = c.in_ok-a in
    let b = c.in_ok-b in
    let v = c.in_ok-d in
    let w = c.in_ok-e in
    let e = c.in_ok-cards in
    let m = c.args.need - side c in
    let seat = c.first-leader.ensures in
    let first = c.trumps.ensures.trumps ∙ ap (trumps_at p.strain p) seat in
    let partners = c.trumps-2.ensures.trumps ∙ ap (trumps_at p.strain p) (c.partner.ensures ∙ ap (λ x. seat_after x 2) seat) in
    let most = c.max-kept.ensures in
    let tricks = c.tricks_left.ensures.tricks in
    let room = c.if-tricks_left-side.false in
    let more : (x : PlayingCard) → has_card k.clubs x ≡ true → has_card e.cards x ≡ true = λ x has. e.ensures.more x (w.ensures.more x (v.ensures.more x (b.ensures.more x (a.ensures.more x has)))) in
    across-rests p k.clubs e.cards t.spades t.hearts t.diamonds t.clubs n.spades n.hearts n.diamonds n.clubs m (is_entry p Spades) (is_entry p Hearts) (is_entry p Diamonds) (is_entry p Clubs)
    a.ensures.all b.ensures.all v.ensures.all w.ensures.all
    (cashed-share p Spades s.spades k.clubs t.spades s.ensures.few s.ensures.rests (λ x has. k.ensures.more x (d.ensures.more x (h.ensures.more x has))))
    (cashed-share p Hearts h.hearts k.clubs t.hearts h.ensures.few h.ensures.rests (λ x has. k.ensures.more x (d.ensures.more x has)))
    (cashed-share p Diamonds d.diamonds k.clubs t.diamonds d.ensures.few d.ensures.rests k.ensures.more)
    (cashed-share p Clubs k.clubs k.clubs t.clubs k.ensures.few k.ensures.rests (λ x has. has))
    more
    (shared p Spades a.a.cards e.cards n.spades a.ensures.few a.ensures.rests (λ x has. e.ensures.more x (w.ensures.more x (v.ensures.more x (b.ensures.more x has)))))
    (shared p Hearts b.b.cards e.cards n.hearts b.ensures.few b.ensures.rests (λ x has. e.ensures.more x (w.ensures.more x (v.ensures.more x has))))
    (shared p Diamonds v.d.cards e.cards n.diamonds v.ensures.few v.ensures.rests (λ x has. e.ensures.more x (w.ensures.more x has)))
    (shared p Clubs w.e.cards e.cards n.clubs w.ensures.few w.ensures.rests e.ensures.more)
    (one-of a.a.entry b.b.entry v.d.entry w.e.entry _ _ _ _ (sym c.any.ensures ∙ c.if-not-any.false) a.ensures.entry b.ensures.entry v.ensures.entry w.ensures.entry)
    (omega (arith, first, most, tricks, room))
    (omega (arith, partners, most, tricks, room))
    (subst (λ x. m ≤ joint_trumps p.strain p x) seat e.ensures.few)
    (subst (λ x. RestsOnTrumps p.strain p x e.cards m) seat e.ensures.trumps)

-- all of it is what was asked for
all : (c : In_ok-cards) → total (mine c) + (total (his c) + (c.args.need - side c)) ≡ c.args.need
all c = (let within = c.if-need-side.false in omega (arith, within))

pub returns-clause-leads : goal.returns-clause-leads
returns-clause-leads c =
    let p = c.args.position.now in
    let k = rests c in
    subst (λ n. TakesBy (reach c.in_ok-cards.cards) (side_of p.first) p n) (all c) (across-by (reach c.in_ok-cards.cards) p _ _ _ k.0 _ c.requires.start k.1)

pub returns-clause-after_a_lead : goal.returns-clause-after_a_lead
returns-clause-after_a_lead c = λ p led ready some.
    let k = rests c in
    subst (λ n. TakesBy (reach c.in_ok-cards.cards) (side_of c.args.position.now.first) p n) (all c)
    (second-across (reach c.in_ok-cards.cards) p led c.args.position.now _ _ _ k.0 _ ready k.1 some)
