-- answers that rest on cards, by the rules of such claims alone
use Rattle.std.proofs.Common.{◌≡◌, ℕ, ◌+◌, ◌-◌, ◌<◌, ◌≤◌, Bool, true, false, refl, sym, ap, ◌∙◌, subst, arith, List, [], inl, inr, ◌⊎◌}
use Rattle.std.specs.Bool.{OnTrue, OnFalse}
use Rattle.std.specs.Prelude.{filter, length, map, min, nat_le, ◌==◌, if◌then◌else◌}
use Rattle.std.proofs.lemmas.Bool.{leb-true, false_from_ne_true}
use Rattle.std.proofs.lemmas.Bool.Decides.{nat_tests}
use mathlib.Core.Bool.{not, beq}
use Rattle.dd_cards.specs.declared.seat.Seat.{Seat}
use Rattle.dd_cards.specs.declared.suit.Suit.{Suit}
use Rattle.dd_cards.specs.PlayingCard.{PlayingCard}
use Rattle.dd_cards.specs.Ranks.{IsRank, has_rank}
use Rattle.dd_cards.specs.Cards.{has_card, is_of, card_of, with_card}
use Rattle.dd_cards.proofs.CallerLemmas.{has_rank-holding}
use Rattle.dd_cards.specs.Seats.{is_north_south}
use Rattle.dd_cards.specs.Sides.{side_of, other_side, same_side}
use Rattle.dd_cards.specs.declared.side.Side.{Side}
use Rattle.dd_cards.specs.declared.side.Side.TheVariants.{NorthSouth, EastWest}
use Rattle.dd_play.specs.Board.{Board, IsBoard, mover, tricks_left}
use Rattle.dd_play.specs.Play.{after}
use Rattle.dd_play.specs.Value.{leaders_tricks}
use Rattle.dd_play.specs.Won.{trick_for}
use Rattle.dd_play.specs.Simulations.{IsLegal}
use Rattle.dd_play.specs.Claims.{Takes}
use Rattle.dd_play.specs.Covers.{IsSettled, count_of}
use Rattle.dd_play.specs.Reach.{reach, TakesBy}
use Rattle.dd_play.proofs.CallerLemmas.{both, by-fewer, by-here, by-more, by-nothing, by-one, legal-leads, one-trick, reach-some, reach-upward, reach-within, worth-after, worth-fewer, worth-low, worth-more}
use Rattle.dd_equal.specs.EqualCards.{tops, IsWhole}
use Rattle.dd_equal.proofs.CallerLemmas.{each-class-whole}
use Rattle.dd_rank.proofs.CallerLemmas.{itself, noted}
use Rattle.dd_rank.specs.Depths.{all_cards, Covers, depths_of}
use Rattle.dd_search.specs.ClaimsBy.{IsAnswer, IsAnswerBy, IsAnswerAfter, ClaimBy, IsClaimBy, IsWindow, claimant, claimed}
use Rattle.dd_search.proofs.Orders.{IsTold}

-- these cards are among those
abbrev pub Within : List PlayingCard → List PlayingCard → Type 0
Within few many = (c : PlayingCard) → has_card few c ≡ true → has_card many c ≡ true

-- the side of a seat, by whether it is North or South
pub claimant-of : (b : Bool) (x : Seat) → b ≡ is_north_south x → claimant b ≡ side_of x
claimant-of b x e = ap claimant e ∙ back (side_of x)
  where
    back : (a : Side) → claimant (same_side a NorthSouth) ≡ a
    back NorthSouth = refl
    back EastWest = refl

claim : (said : Bool) (p : Board) (need : ℕ) (cards : List PlayingCard) → IsAnswerBy p need cards said → TakesBy (reach cards) (claimant said) p (claimed said p need)
claim true p need cards h = h
claim false p need cards h = h

answers : (said : Bool) (p : Board) (need : ℕ) (cards : List PlayingCard) → TakesBy (reach cards) (claimant said) p (claimed said p need) → IsAnswerBy p need cards said
answers true p need cards h = h
answers false p need cards h = h

-- an answer holds where it was found
pub answer-here : (p : Board) (need : ℕ) (cards : List PlayingCard) (said : Bool) → IsBoard p → IsAnswerBy p need cards said → IsAnswer p need said
answer-here p need cards true valid h = by-here (reach cards) NorthSouth p need valid (reach-upward cards) h
answer-here p need cards false valid h = by-here (reach cards) EastWest p (tricks_left p + 1 - need) valid (reach-upward cards) h

-- what is claimed after a card, with the trick that the card completes, is what was asked before it
claimed-after : (said : Bool) (p : Board) (c : PlayingCard) (need rest : ℕ) → IsBoard p → IsLegal p c → 1 ≤ need → rest + trick_for NorthSouth p c ≡ need
    → claimed said p need ≤ claimed said (after p c) rest + trick_for (claimant said) p c
claimed-after true p c need rest valid has some e = omega (arith, e)
claimed-after false p c need rest valid has some e =
    let tricks = (legal-leads p c valid has).tricks in
    let one = one-trick NorthSouth p c in
    omega (arith, e, tricks, one, some)

-- what is found after a legal card that is settled
pub leads : (p q : Board) (need rest : ℕ) (c : PlayingCard) (later by : List PlayingCard) (said : Bool) → IsBoard p → IsLegal p c → 1 ≤ need → q ≡ after p c → rest + trick_for NorthSouth p c ≡ need
    → IsAnswerBy q rest later said → Within later by → IsSettled (reach by) p c → IsAnswerAfter p need c by said
leads p q need rest c later by said valid has some next same answer within settled =
    let here : TakesBy (reach later) (claimant said) (after p c) (claimed said (after p c) rest) = claim said (after p c) rest later (subst (λ (r : Board). IsAnswerBy r rest later said) next answer) in
    worth-fewer (reach by) (claimant said) p c (claimed said (after p c) rest + trick_for (claimant said) p c) (claimed said p need)
    (worth-after (reach by) (claimant said) p c (claimed said (after p c) rest) has settled
    (by-more (reach later) (reach by) (claimant said) (after p c) (claimed said (after p c) rest) (reach-within later by within) (reach-upward later) here))
    (claimed-after said p c need rest valid has some same)

-- what the other side takes after a lead
pub led-against : (p : Board) (c : PlayingCard) (need others : ℕ) (cards : List PlayingCard) (b : Bool) → IsBoard p → length p.trick ≡ 0 → IsLegal p c → 1 ≤ need → need ≤ tricks_left p → b ≡ is_north_south p.first
    → others ≡ (if b then tricks_left p + 1 - need else need) → TakesBy (reach cards) (other_side (side_of p.first)) (after p c) others → IsAnswerAfter p need c cards (not b)
led-against p c need others cards b valid start legal low high leads is takes =
    worth-fewer (reach cards) (claimant (not b)) p c (others + trick_for (claimant (not b)) p c) (claimed (not b) p need)
    (worth-after (reach cards) (claimant (not b)) p c others legal settled (subst (λ s. TakesBy (reach cards) s (after p c) others) (sym side) takes)) (few b is)
  where
    settled : IsSettled (reach cards) p c
    settled full i l other same = absurd (let no : false ≡ true = sym (ap (λ n. n == 3) start) ∙ full in cc)

    turned : (x : Side) → claimant (not (same_side x NorthSouth)) ≡ other_side x
    turned NorthSouth = refl
    turned EastWest = refl

    side : claimant (not b) ≡ other_side (side_of p.first)
    side = ap (λ (x : Bool). claimant (not x)) leads ∙ turned (side_of p.first)

    few : (b : Bool) → others ≡ (if b then tricks_left p + 1 - need else need) → claimed (not b) p need ≤ others + trick_for (claimant (not b)) p c
    few true e = omega (arith, e)
    few false e = omega (arith, e)

-- by more cards too
pub leads-wider : (p : Board) (need : ℕ) (c : PlayingCard) (few many : List PlayingCard) (said : Bool) → Within few many → IsAnswerAfter p need c few said → IsAnswerAfter p need c many said
leads-wider p need c few many said within h = worth-more (reach few) (reach many) (claimant said) p c (claimed said p need) (reach-within few many within) (reach-upward few) h

-- a low card for another
pub leads-low : (p : Board) (need : ℕ) (c d : PlayingCard) (cards : List PlayingCard) (said : Bool) → reach cards c ≡ false → reach cards d ≡ false → d.suit ≡ c.suit → IsAnswerAfter p need c cards said → IsAnswerAfter p need d cards said
leads-low p need c d cards said low low' suits h = worth-low (reach cards) (claimant said) p c d (claimed said p need) low low' suits h

-- the mover's side claims where the answer is the mover's
turn : (a : Bool) (b : Side) → a ≡ same_side b NorthSouth → same_side b (claimant a) ≡ true
turn true NorthSouth e = refl
turn false EastWest e = refl
turn true EastWest e = absurd (cc)
turn false NorthSouth e = absurd (cc)

-- and the other side where it is not
turn-not : (a : Bool) (b : Side) → a ≡ not (same_side b NorthSouth) → same_side b (claimant a) ≡ false
turn-not true NorthSouth e = absurd (cc)
turn-not false EastWest e = absurd (cc)
turn-not true EastWest e = refl
turn-not false NorthSouth e = refl

-- one card is enough for the side that plays it
pub one-settles : (p : Board) (need : ℕ) (c : PlayingCard) (cards : List PlayingCard) (said : Bool) → said ≡ is_north_south (mover p) → IsLegal p c → IsAnswerAfter p need c cards said → IsAnswerBy p need cards said
one-settles p need c cards said side has h = answers said p need cards (by-one (reach cards) (claimant said) p c (claimed said p need) (turn said (side_of (mover p)) side) has h)

-- where no card of the side to play is enough, the other side has it
pub none-settles : (p : Board) (need : ℕ) (cards : List PlayingCard) (said : Bool) → IsBoard p → said ≡ not (is_north_south (mover p)) → 1 ≤ need → need ≤ tricks_left p → IsWhole (reach cards) p
    → ((c : PlayingCard) → has_card (tops p) c ≡ true → IsAnswerAfter p need c cards said) → IsAnswerBy p need cards said
none-settles p need cards said valid side some most whole each =
    answers said p need cards (each-class-whole (reach cards) (claimant said) p (claimed said p need) (reach-upward cards) valid (turn-not said (side_of (mover p)) side) (omega (arith, some, most)) whole each)

-- ---- the walk over the cards

-- of each class the highest card is still to be tried, or gives the other side its answer
abbrev pub AllLead : Board → ℕ → List PlayingCard → List PlayingCard → Bool → Type 0
AllLead p need untried cards said = (c : PlayingCard) → has_card (tops p) c ≡ true → (has_card untried c ≡ true) ⊎ IsAnswerAfter p need c cards said

-- what is still to be tried may be played
abbrev pub AllLegal : Board → List PlayingCard → Type 0
AllLegal p untried = (c : PlayingCard) → has_card untried c ≡ true → IsLegal p c

-- one card more is tried
pub one-more : (p : Board) (need : ℕ) (card : PlayingCard) (old new by cards all : List PlayingCard) (said : Bool) → IsTold old card by new → Within cards all → Within by all → IsAnswerAfter p need card by said
    → AllLead p need old cards said → AllLead p need new all said
one-more p need card old new by cards all said told a b here each c has = elim (each c has) [
  | inl before ↦ elim (told c before) [
    | inl still ↦ inl still
    | inr gone ↦ inr (leads-wider p need c by all said b (elim gone [
      | inl same ↦ subst (λ (x : PlayingCard). IsAnswerAfter p need x by said) (sym same) here
      | inr low ↦ leads-low p need card c by said low.2 low.1 low.0 here
    ]))
  ]
  | inr done ↦ inr (leads-wider p need c cards all said a done)
]

-- ---- what a failure tells of

abbrev pub AreOf : Suit → List ℕ → List PlayingCard → Type 0
AreOf s ranks cards = map (card_of s) ranks ≡ filter (is_of s) cards

-- nothing of the suit is reached
pub none-reached : (s : Suit) (ranks : List ℕ) (cards : List PlayingCard) → AreOf s ranks cards → ((d : PlayingCard) → has_card cards d ≡ true → IsRank d.rank) → ((q : ℕ) → has_rank ranks q ≡ true → q < 2)
    → (c : PlayingCard) → c.suit ≡ s → reach cards c ≡ false
none-reached s ranks cards are real none c suits = false_from_ne_true _ (λ h.
    let d = reach-some cards c h in
    let same : d.0 ≡ card_of s d.0.rank = ap (λ (u : Suit). card_of u d.0.rank) (d.2 ∙ suits) in
    let low = none d.0.rank (has_rank-holding s ranks cards d.0.rank are ∙ ap (has_card cards) (sym same) ∙ d.1) in
    let two = (real d.0 d.1).0 in
    omega (arith, low, two))

-- nothing below the lowest is
pub low-reached : (s : Suit) (ranks : List ℕ) (cards : List PlayingCard) (floor : ℕ) → AreOf s ranks cards → ((d : PlayingCard) → has_card cards d ≡ true → IsRank d.rank) → ((q : ℕ) → has_rank ranks q ≡ true → 2 ≤ q → floor ≤ q)
    → (c : PlayingCard) → c.suit ≡ s → c.rank < floor → reach cards c ≡ false
low-reached s ranks cards floor are real least c suits below = false_from_ne_true _ (λ h.
    let d = reach-some cards c h in
    let same : d.0 ≡ card_of s d.0.rank = ap (λ (u : Suit). card_of u d.0.rank) (d.2 ∙ suits) in
    let l = least d.0.rank (has_rank-holding s ranks cards d.0.rank are ∙ ap (has_card cards) (sym same) ∙ d.1) (real d.0 d.1).0 in
    let m = d.3 in
    omega (arith, l, m, below))

-- ---- what bounds tell

-- bounds that settle the leader's question settle North and South's
pub told-answer : (p : Board) (lo hi need leaders left_is : ℕ) (leads said : Bool) (cards : List PlayingCard) → leads ≡ is_north_south p.first → left_is ≡ tricks_left p → 1 ≤ need → need ≤ tricks_left p
    → (leads ≡ true → leaders ≡ need) → (leads ≡ false → leaders ≡ left_is + 1 - need) → (leaders ≤ lo) ⊎ (hi < leaders) → said ≡ beq (nat_le leaders lo) leads
    → TakesBy (reach cards) (side_of p.first) p lo → TakesBy (reach cards) (other_side (side_of p.first)) p (tricks_left p - hi) → IsAnswerBy p need cards said
told-answer p lo hi need leaders left_is leads said cards side tricks some most ours theirs settles is low high = subst (λ (b : Bool). IsAnswerBy p need cards b) (sym is) (go leads side ours theirs (nat_le leaders lo) refl)
  where
    not-le : (a b : ℕ) → nat_le a b ≡ false → b < a
    not-le a b h = grind (arith, nat_tests)

    over : nat_le leaders lo ≡ false → hi < leaders
    over e = elim settles [ inl l ↦ absurd (let n = not-le leaders lo e in omega (arith, n, l)) | inr h ↦ h ]

    go : (b : Bool) → b ≡ is_north_south p.first → (b ≡ true → leaders ≡ need) → (b ≡ false → leaders ≡ left_is + 1 - need) → (k : Bool) → nat_le leaders lo ≡ k → IsAnswerBy p need cards (beq k b)
    go true s ours theirs true e = by-fewer (reach cards) NorthSouth p lo need (subst (λ (x : Side). TakesBy (reach cards) x p lo) (sym (claimant-of true p.first s)) low) (let l = leb-true leaders lo e in let o = ours refl in omega (arith, l, o))
    go true s ours theirs false e = by-fewer (reach cards) EastWest p (tricks_left p - hi) (tricks_left p + 1 - need) (subst (λ (x : Side). TakesBy (reach cards) (other_side x) p (tricks_left p - hi)) (sym (claimant-of true p.first s)) high) (let l = over e in let o = ours refl in omega (arith, l, o))
    go false s ours theirs true e = by-fewer (reach cards) EastWest p lo (tricks_left p + 1 - need) (subst (λ (x : Side). TakesBy (reach cards) x p lo) (sym (claimant-of false p.first s)) low) (let l = leb-true leaders lo e in let o = theirs refl in omega (arith, l, o, tricks))
    go false s ours theirs false e = by-fewer (reach cards) NorthSouth p (tricks_left p - hi) need (subst (λ (x : Side). TakesBy (reach cards) (other_side x) p (tricks_left p - hi)) (sym (claimant-of false p.first s)) high) (let l = over e in let o = theirs refl in omega (arith, l, o, tricks, some, most))

-- what two truth values that agree or differ tell
same-beq : (a b : Bool) → beq a b ≡ true → a ≡ b
same-beq true true h = refl
same-beq true false h = absurd (cc)
same-beq false true h = absurd (cc)
same-beq false false h = refl

pub differ-beq : (a b : Bool) → beq a b ≡ false → a ≡ not b
differ-beq true true h = absurd (cc)
differ-beq true false h = refl
differ-beq false true h = refl
differ-beq false false h = absurd (cc)

-- what is answered after a card against the side to play
pub answered-against : (p : Board) (need : ℕ) (c : PlayingCard) (by : List PlayingCard) (b said : Bool) → IsAnswerAfter p need c by said → beq said b ≡ false → IsAnswerAfter p need c by (not b)
answered-against p need c by b said h against = subst (λ (x : Bool). IsAnswerAfter p need c by x) (differ-beq said b against) h

-- and for it
pub answered-for : (p : Board) (need : ℕ) (c : PlayingCard) (by : List PlayingCard) (b said : Bool) → IsLegal p c → b ≡ is_north_south (mover p) → IsAnswerAfter p need c by said → beq said b ≡ true → IsAnswerBy p need by said
answered-for p need c by b said has side h wanted = one-settles p need c by said (same-beq said b wanted ∙ side) has h

-- no card was enough for the side to play, so the other side has its answer
pub all-tried : (p : Board) (need : ℕ) (untried cards all : List PlayingCard) (b : Bool) → IsBoard p → b ≡ is_north_south (mover p)
    → 1 ≤ need → need ≤ tricks_left p → untried ≡ [] → AllLead p need untried cards (not b) → Within cards all → IsWhole (reach all) p → IsAnswerBy p need all (not b)
all-tried p need untried cards all b valid side some most none leaders_tricks more whole =
    none-settles p need all (not b) valid (ap not side) some most whole (λ c has. elim (leaders_tricks c has) [
      | inl left_over ↦ absurd (let no : has_card [] c ≡ true = ap (λ xs. has_card xs c) (sym none) ∙ left_over in cc)
      | inr done ↦ leads-wider p need c cards all (not b) more done
    ])

-- ---- what an answer teaches

-- a window of North and South's tricks, by these cards
abbrev pub IsWindowBy : Board → List PlayingCard → ℕ → ℕ → Type 0
IsWindowBy p cards lo hi = TakesBy (reach cards) NorthSouth p lo × TakesBy (reach cards) EastWest p (tricks_left p - hi)

pub yes-window : (p : Board) (need : ℕ) (cards : List PlayingCard) (said : Bool) (lo hi : ℕ) → IsAnswerBy p need cards said → said ≡ true → lo ≡ need → hi ≡ tricks_left p → IsWindowBy p cards lo hi
yes-window p need cards said lo hi answer e low high =
    let k : TakesBy (reach cards) NorthSouth p need = subst (λ (x : Bool). IsAnswerBy p need cards x) e answer in
    (by-fewer (reach cards) NorthSouth p need lo k (omega (arith, low)), by-fewer (reach cards) EastWest p 0 (tricks_left p - hi) (by-nothing (reach cards) EastWest p) (omega (arith, high)))

pub no-window : (p : Board) (need : ℕ) (cards : List PlayingCard) (said : Bool) (lo hi : ℕ) → IsAnswerBy p need cards said → said ≡ false → lo ≡ 0 → hi ≡ need - 1 → 1 ≤ need → IsWindowBy p cards lo hi
no-window p need cards said lo hi answer e low high some =
    let k : TakesBy (reach cards) EastWest p (tricks_left p + 1 - need) = subst (λ (x : Bool). IsAnswerBy p need cards x) e answer in
    (by-fewer (reach cards) NorthSouth p 0 lo (by-nothing (reach cards) NorthSouth p) (omega (arith, low)), by-fewer (reach cards) EastWest p (tricks_left p + 1 - need) (tricks_left p - hi) k (omega (arith, high, some)))

-- the bounds from lo to hi are those from l to h seen from the other side, or the same where `leads` holds
pub record IsTurned (leads : Bool) (n l h lo hi : ℕ) : Type 0 where
  pub same : OnTrue leads ((lo ≡ l) × (hi ≡ min h n))
  pub other : OnFalse leads ((lo ≡ n - h) × (hi ≡ n - l))

-- turned to the leader's
pub turned-by : (p : Board) (cards : List PlayingCard) (l h lo hi : ℕ) (leads : Bool) (n : ℕ) → leads ≡ is_north_south p.first → n ≡ tricks_left p → IsTurned leads n l h lo hi → IsWindowBy p cards l h
    → TakesBy (reach cards) (side_of p.first) p lo × TakesBy (reach cards) (other_side (side_of p.first)) p (tricks_left p - hi)
turned-by p cards l h lo hi leads n side tricks turn w = subst (λ (x : Side). TakesBy (reach cards) x p lo × TakesBy (reach cards) (other_side x) p (tricks_left p - hi)) (claimant-of leads p.first side) (go leads turn)
  where
    go : (b : Bool) → IsTurned b n l h lo hi → TakesBy (reach cards) (claimant b) p lo × TakesBy (reach cards) (other_side (claimant b)) p (tricks_left p - hi)
    go true t =
        let a = t.same.0 in
        let b = t.same.1 in
        (by-fewer (reach cards) NorthSouth p l lo w.0 (omega (arith, a)), by-fewer (reach cards) EastWest p (tricks_left p - h) (tricks_left p - hi) w.1 (omega (arith, b, tricks)))
    go false t =
        let a = t.other.0 in
        let b = t.other.1 in
        (by-fewer (reach cards) EastWest p (tricks_left p - h) lo w.1 (omega (arith, a, tricks)), by-fewer (reach cards) NorthSouth p l (tricks_left p - hi) w.0 (omega (arith, b, tricks)))

-- ---- claims of both sides, and the value

-- what the leader's side and the other side claim, where North or South leads
pub north-south-leads : (p : Board) (cards : List PlayingCard) (n m : ℕ) (b : Bool) → b ≡ is_north_south p.first → b ≡ true → TakesBy (reach cards) (side_of p.first) p n × TakesBy (reach cards) (other_side (side_of p.first)) p m
    → TakesBy (reach cards) NorthSouth p n × TakesBy (reach cards) EastWest p m
north-south-leads p cards n m b side e k = subst (λ (x : Side). TakesBy (reach cards) x p n × TakesBy (reach cards) (other_side x) p m) (sym (claimant-of true p.first (sym e ∙ side))) k

-- and where East or West does
pub east-west-leads : (p : Board) (cards : List PlayingCard) (n m : ℕ) (b : Bool) → b ≡ is_north_south p.first → b ≡ false → TakesBy (reach cards) (side_of p.first) p n × TakesBy (reach cards) (other_side (side_of p.first)) p m
    → TakesBy (reach cards) NorthSouth p m × TakesBy (reach cards) EastWest p n
east-west-leads p cards n m b side e k =
    let h : TakesBy (reach cards) EastWest p n × TakesBy (reach cards) NorthSouth p m = subst (λ (x : Side). TakesBy (reach cards) x p n × TakesBy (reach cards) (other_side x) p m) (sym (claimant-of false p.first (sym e ∙ side))) k in
    (h.1, h.0)

-- both sides claim no more than is left
pub claims-within : (p : Board) (ours theirs : ClaimBy) → IsBoard p → IsWindow p ours theirs → ours.tricks + theirs.tricks ≤ tricks_left p
claims-within p ours theirs valid w =
    both NorthSouth p ours.tricks theirs.tricks valid (by-here (reach ours.cards) NorthSouth p ours.tricks valid (reach-upward ours.cards) w.0) (by-here (reach theirs.cards) EastWest p theirs.tricks valid (reach-upward theirs.cards) w.1)

-- by more cards
pub claim-wider : (side : Side) (p : Board) (claim : ClaimBy) (cards : List PlayingCard) (n : ℕ) → IsClaimBy side p claim → Within claim.cards cards → n ≤ claim.tricks → TakesBy (reach cards) side p n
claim-wider side p claim cards n h more few =
    by-fewer (reach cards) side p claim.tricks n (by-more (reach claim.cards) (reach cards) side p claim.tricks (reach-within claim.cards cards more) (reach-upward claim.cards) h) few

-- what North and South take, no more and no less, by these cards
pub record IsExactly (p : Board) (n : ℕ) (cards : List PlayingCard) : Type 0 where
  pub valid : IsBoard p
  pub theirs : TakesBy (reach cards) NorthSouth p n
  pub others : TakesBy (reach cards) EastWest p (tricks_left p - n)
  pub within : n ≤ tricks_left p

-- the claims hold there
pub exactly-theirs : (p : Board) (n : ℕ) (cards : List PlayingCard) → IsExactly p n cards → Takes NorthSouth p n
exactly-theirs p n cards k = by-here (reach cards) NorthSouth p n k.valid (reach-upward cards) k.theirs

pub exactly-others : (p : Board) (n : ℕ) (cards : List PlayingCard) → IsExactly p n cards → Takes EastWest p (tricks_left p - n)
exactly-others p n cards k = by-here (reach cards) EastWest p (tricks_left p - n) k.valid (reach-upward cards) k.others

-- so many the leader's side takes
abbrev leaders : Board → ℕ → ℕ
leaders p n = (if is_north_south p.first then n else (tricks_left p - n))

-- it claims them, and the other side the rest
leaders-claims : (p : Board) (n : ℕ) (cards : List PlayingCard) → IsExactly p n cards → TakesBy (reach cards) (side_of p.first) p (leaders p n) × TakesBy (reach cards) (other_side (side_of p.first)) p (tricks_left p - leaders p n)
leaders-claims p n cards k = go (side_of p.first)
  where
    go : (side : Side) → TakesBy (reach cards) side p (if same_side side NorthSouth then n else (tricks_left p - n)) × TakesBy (reach cards) (other_side side) p (tricks_left p - (if same_side side NorthSouth then n else (tricks_left p - n)))
    go NorthSouth = (k.theirs, k.others)
    go EastWest = (k.others, by-fewer (reach cards) NorthSouth p n (tricks_left p - (tricks_left p - n)) k.theirs (let w = k.within in omega (arith, w)))

-- and each position that is covered at the depths of the cards has that value
covered-value : (p : Board) (n : ℕ) (cards : List PlayingCard) (depths : Suit → ℕ) → IsExactly p n cards → ((c : PlayingCard) → has_card cards c ≡ true → IsRank c.rank) → ((u : Suit) → depths u ≡ depths_of (reach cards) p u)
    → (q : Board) → IsBoard q → Covers p depths q → leaders_tricks q ≡ leaders p n
covered-value p n cards depths k real deep q good covers =
    let claims = leaders-claims p n cards k in
    let h = noted cards depths p (leaders p n) (leaders p n) real k.valid (λ u. let e = deep u in omega (arith, e)) claims.0 claims.1 q good covers in
    let low = h.0 in
    let high = h.1 in
    omega (arith, low, high)

-- what was found of a start of a trick, and the depths of the cards that it rests on
pub record IsStartValue (p : Board) (n : ℕ) (cards : List PlayingCard) (depths : Suit → ℕ) : Type 0 where
  pub exactly : IsExactly p n cards
  pub start : p.trick ≡ []
  pub real : (c : PlayingCard) → has_card cards c ≡ true → IsRank c.rank
  pub deep : (u : Suit) → depths u ≡ depths_of (reach cards) p u
  pub within : (u : Suit) → depths u ≤ count_of u (all_cards p)

start-value : (p : Board) (n : ℕ) (cards : List PlayingCard) (depths : Suit → ℕ) → IsStartValue p n cards depths → leaders_tricks p ≡ leaders p n
start-value p n cards depths k = covered-value p n cards depths k.exactly k.real k.deep p k.exactly.valid (itself p depths k.start k.within)

-- the value, where North or South leads
pub start-north-south : (p : Board) (n : ℕ) (cards : List PlayingCard) (depths : Suit → ℕ) (b : Bool) → IsStartValue p n cards depths → b ≡ is_north_south p.first → b ≡ true → n ≡ leaders_tricks p
start-north-south p n cards depths b k side e =
    let here : is_north_south p.first ≡ true = sym side ∙ e in
    sym (start-value p n cards depths k ∙ ap (λ (x : Bool). if x then n else (tricks_left p - n)) here)

-- and where East or West does
pub start-east-west : (p : Board) (n : ℕ) (cards : List PlayingCard) (depths : Suit → ℕ) (b : Bool) → IsStartValue p n cards depths → b ≡ is_north_south p.first → b ≡ false → tricks_left p - n ≡ leaders_tricks p
start-east-west p n cards depths b k side e =
    let here : is_north_south p.first ≡ false = sym side ∙ e in
    sym (start-value p n cards depths k ∙ ap (λ (x : Bool). if x then n else (tricks_left p - n)) here)

-- each position that is covered has it
pub start-covered : (p : Board) (n : ℕ) (cards : List PlayingCard) (depths : Suit → ℕ) → IsStartValue p n cards depths → (q : Board) → IsBoard q → Covers p depths q → leaders_tricks q ≡ leaders_tricks p
start-covered p n cards depths k q good covers = covered-value p n cards depths k.exactly k.real k.deep q good covers ∙ sym (start-value p n cards depths k)
