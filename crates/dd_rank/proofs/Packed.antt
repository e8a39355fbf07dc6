-- what the tests on the packed owners of a cover tell
use Rattle.std.proofs.Common.{◌≡◌, ℕ, ◌*◌, ◌-◌, ◌%◌, ◌^◌, ◌≤◌, Bool, true, false, refl, sym, ap, ◌∙◌, subst, arith, eqb-true, eq-eqb, bit_and, nat_eq, []}
use Rattle.std.specs.Prelude.{◌&&◌, ◌↔◌, IsTrue}
use mathlib.Core.Path.{ap₂}
use Rattle.std.proofs.lemmas.Nat.{and_mask}
use Rattle.dd_cards.specs.declared.suit.Suit.{Suit}
use Rattle.dd_cards.specs.declared.suit.Suit.TheVariants.{Spades, Hearts, Diamonds, Clubs}
use Rattle.dd_cards.proofs.CallerLemmas.{all-four, four-all}
use Rattle.dd_play.specs.Board.{Board, IsBoard}
use Rattle.dd_play.specs.Covers.{count_of}
use Rattle.dd_rank.specs.Cover.{CoverOf, IsSameCover}
use Rattle.dd_rank.specs.Depths.{all_cards, Covers, FourDepths, depth_in}
use Rattle.dd_rank.specs.Strings.{owners_number, shape_of, Strings, strings_of, string_in, both-pass}
use Rattle.dd_rank.specs.Tops.{IsTopOf, IsPacked}
use Rattle.dd_rank.specs.declared.cover.Cover.TheInside.{Inside}
use Rattle.dd_rank.specs.declared.cover.TopOwners.{TopOwners}
use Rattle.dd_rank.proofs.Agreed.{covers-agree, agree-covers}
use Rattle.dd_rank.proofs.Digits.{power-pos, two-bits, powers-tell}

-- the owners of a suit
top_in : Inside → Suit → TopOwners
top_in c Spades = c.spades
top_in c Hearts = c.hearts
top_in c Diamonds = c.diamonds
top_in c Clubs = c.clubs

-- .. are those of the board
top-of : (c : Inside) → IsPacked c → (u : Suit) → IsTopOf c.start c.depths u (top_in c u)
unfolding top_in
top-of c packed Spades = packed.spades_top
top-of c packed Hearts = packed.hearts_top
top-of c packed Diamonds = packed.diamonds_top
top-of c packed Clubs = packed.clubs_top

-- the strings of a position have its owners' numbers
string-number : (q : Board) (u : Suit) → string_in (strings_of q) u ≡ owners_number q u
string-number q Spades = refl
string-number q Hearts = refl
string-number q Diamonds = refl
string-number q Clubs = refl

-- a test of two numbers
abbrev Tests : Bool → ℕ → ℕ → Type 0
Tests b n m = b ≡ nat_eq n m

-- what is left of a number under a mask of so many digits
masked : (p : Board) (depths : FourDepths) (u : Suit) (top : TopOwners) (n : ℕ) → IsTopOf p depths u top → bit_and n top.mask ≡ n % 4 ^ depth_in depths u
masked p depths u top n t =
    ap (bit_and n) (t.mask ∙ ap (λ x. x - 1) (sym (two-bits (depth_in depths u)))) ∙ and_mask n (2 * depth_in depths u) ∙ ap (λ x. n % x) (two-bits (depth_in depths u))

-- a test that is true
pub is-true : (b : Bool) → IsTrue b → b ≡ true
is-true true h = refl
is-true false h = absurd (cc)

-- .. and the other way round
pub true-is : (b : Bool) → b ≡ true → IsTrue b
true-is true h = refl
true-is false h = absurd (cc)

-- one suit's test of a cover
suit-test : (c : Inside) (q : Board) (u : Suit) (b : Bool) (n : ℕ) → IsPacked c → n ≡ owners_number q u → Tests b (bit_and n (top_in c u).mask) (top_in c u).owners
    → b ≡ true ↔ owners_number q u % 4 ^ depth_in c.depths u ≡ owners_number c.start u % 4 ^ depth_in c.depths u
suit-test c q u b n packed is test =
    let t = top-of c packed u in
    let part : bit_and n (top_in c u).mask ≡ owners_number q u % 4 ^ depth_in c.depths u = masked c.start c.depths u (top_in c u) n t ∙ ap (λ m. m % 4 ^ depth_in c.depths u) is in (
      λ e. sym part ∙ eqb-true _ _ (sym test ∙ e) ∙ t.owners,
      λ same. test ∙ eq-eqb _ _ (part ∙ same ∙ sym t.owners),
    )

-- the four tests tell whether a position of its shape is covered
pub covers-tested : (c : Inside) (v : Strings) (q : Board) (s h d cl : Bool) → IsPacked c → v ≡ strings_of q → shape_of q ≡ shape_of c.start → IsBoard q → q.trick ≡ []
    → Tests s (bit_and (string_in v Spades) c.spades.mask) c.spades.owners → Tests h (bit_and (string_in v Hearts) c.hearts.mask) c.hearts.owners
    → Tests d (bit_and (string_in v Diamonds) c.diamonds.mask) c.diamonds.owners → Tests cl (bit_and (string_in v Clubs) c.clubs.mask) c.clubs.owners
    → IsTrue (s && h && d && cl) ↔ Covers c.start (depth_in c.depths) q
unfolding top_in
covers-tested c v q s h d cl packed is shape valid start ts th td tc = (
  λ t. (
      let all = all-four s h d cl (is-true _ t) in
      agree-covers (depth_in c.depths) c.start q packed.board valid packed.no_trick start (record { shape = shape; most = packed.within; owners = each all.0 all.1 all.2 all.3 })),
  λ a. (
      let agreed = covers-agree (depth_in c.depths) c.start q packed.board valid a in
      true-is _ (four-all s h d cl ((test Spades s ts).1 (agreed.owners Spades)) ((test Hearts h th).1 (agreed.owners Hearts)) ((test Diamonds d td).1 (agreed.owners Diamonds)) ((test Clubs cl tc).1 (agreed.owners Clubs)))),
)
  where
    test : (u : Suit) (b : Bool) → Tests b (bit_and (string_in v u) (top_in c u).mask) (top_in c u).owners → b ≡ true ↔ owners_number q u % 4 ^ depth_in c.depths u ≡ owners_number c.start u % 4 ^ depth_in c.depths u
    test u b t = suit-test c q u b (string_in v u) packed (ap (λ w. string_in w u) is ∙ string-number q u) t

    each : s ≡ true → h ≡ true → d ≡ true → cl ≡ true → (u : Suit) → owners_number q u % 4 ^ depth_in c.depths u ≡ owners_number c.start u % 4 ^ depth_in c.depths u
    each es eh ed ec Spades = (test Spades s ts).0 es
    each es eh ed ec Hearts = (test Hearts h th).0 eh
    each es eh ed ec Diamonds = (test Diamonds d td).0 ed
    each es eh ed ec Clubs = (test Clubs cl tc).0 ec

-- ---- equal covers
-- one suit's test of two covers
abbrev SameTops : Bool → TopOwners → TopOwners → Type 0
SameTops b t o = b ≡ (nat_eq t.mask o.mask && nat_eq t.owners o.owners)

-- where it passes, depth and owners are the same
same-suit : (c o : Inside) (u : Suit) (b : Bool) → IsPacked c → IsPacked o → SameTops b (top_in c u) (top_in o u) → b ≡ true
    → (depth_in o.depths u ≡ depth_in c.depths u) × (owners_number o.start u % 4 ^ depth_in c.depths u ≡ owners_number c.start u % 4 ^ depth_in c.depths u)
same-suit c o u b pc po test e =
    let t = top-of c pc u in
    let k = top-of o po u in
    let two = both-pass _ _ (sym test ∙ e) in
    let masks : (top_in c u).mask ≡ (top_in o u).mask = eqb-true _ _ two.0 in
    let depth : depth_in o.depths u ≡ depth_in c.depths u = powers-tell (depth_in o.depths u) (depth_in c.depths u) (
    let a = t.mask in let b = k.mask in let i = power-pos (depth_in c.depths u) in let j = power-pos (depth_in o.depths u) in omega (arith, a, b, masks, i, j)) in (
      depth,
      ap (λ d. owners_number o.start u % 4 ^ d) (sym depth) ∙ sym k.owners ∙ sym (eqb-true _ _ two.1) ∙ t.owners,
    )

-- and the other way round
suit-same : (c o : Inside) (u : Suit) (b : Bool) → IsPacked c → IsPacked o → SameTops b (top_in c u) (top_in o u) → depth_in o.depths u ≡ depth_in c.depths u
    → owners_number o.start u % 4 ^ depth_in c.depths u ≡ owners_number c.start u % 4 ^ depth_in c.depths u → b ≡ true
suit-same c o u b pc po test depth owners =
    let t = top-of c pc u in
    let k = top-of o po u in
    let masks : (top_in c u).mask ≡ (top_in o u).mask = t.mask ∙ ap (λ d. 4 ^ d - 1) (sym depth) ∙ sym k.mask in
    let tops : (top_in c u).owners ≡ (top_in o u).owners = t.owners ∙ sym owners ∙ ap (λ d. owners_number o.start u % 4 ^ d) (sym depth) ∙ sym k.owners in
    test ∙ rw (eq-eqb _ _ masks, eq-eqb _ _ tops) refl

-- the board and depths of a cover
abbrev seen : Inside → CoverOf
seen c = record { board = c.start; depths = c.depths }

-- the four tests tell whether two covers of one shape are the same
pub same-tested : (c o : Inside) (s h d cl : Bool) → IsPacked c → IsPacked o → shape_of o.start ≡ shape_of c.start
    → SameTops s c.spades o.spades → SameTops h c.hearts o.hearts → SameTops d c.diamonds o.diamonds → SameTops cl c.clubs o.clubs
    → IsTrue (s && h && d && cl) ↔ IsSameCover (seen c) (seen o)
unfolding top_in
same-tested c o s h d cl pc po shape ts th td tc = (
  λ t. (
      let all = all-four s h d cl (is-true _ t) in
      let each = suits all.0 all.1 all.2 all.3 in
      let same : o.depths ≡ c.depths = depths o.depths c.depths (each Spades).0 (each Hearts).0 (each Diamonds).0 (each Clubs).0 in (
        same,
        agree-covers (depth_in c.depths) c.start o.start pc.board po.board pc.no_trick po.no_trick (record { shape = shape; most = pc.within; owners = λ u. (each u).1 }),
        agree-covers (depth_in o.depths) o.start c.start po.board pc.board po.no_trick pc.no_trick (record { shape = sym shape; most = po.within; owners = λ u. subst (λ e. owners_number c.start u % 4 ^ e ≡ owners_number o.start u % 4 ^ e) (sym (each u).0) (sym (each u).1) }),
      )),
  λ a. (
      let agreed = covers-agree (depth_in c.depths) c.start o.start pc.board po.board a.1 in
      let depth = λ (u : Suit). ap (λ (e : FourDepths). depth_in e u) a.0 in
      true-is _ (four-all s h d cl (suit-same c o Spades s pc po ts (depth Spades) (agreed.owners Spades)) (suit-same c o Hearts h pc po th (depth Hearts) (agreed.owners Hearts))
      (suit-same c o Diamonds d pc po td (depth Diamonds) (agreed.owners Diamonds)) (suit-same c o Clubs cl pc po tc (depth Clubs) (agreed.owners Clubs)))),
)
  where
    suits : s ≡ true → h ≡ true → d ≡ true → cl ≡ true → (u : Suit)
        → (depth_in o.depths u ≡ depth_in c.depths u) × (owners_number o.start u % 4 ^ depth_in c.depths u ≡ owners_number c.start u % 4 ^ depth_in c.depths u)
    suits es eh ed ec Spades = same-suit c o Spades s pc po ts es
    suits es eh ed ec Hearts = same-suit c o Hearts h pc po th eh
    suits es eh ed ec Diamonds = same-suit c o Diamonds d pc po td ed
    suits es eh ed ec Clubs = same-suit c o Clubs cl pc po tc ec

    depths : (a b : FourDepths) → a.spades ≡ b.spades → a.hearts ≡ b.hearts → a.diamonds ≡ b.diamonds → a.clubs ≡ b.clubs → a ≡ b
    depths a b es eh ed ec = four a.spades b.spades a.hearts b.hearts a.diamonds b.diamonds a.clubs b.clubs es eh ed ec
      where
        four : (a b c d e f g h : ℕ) → a ≡ b → c ≡ d → e ≡ f → g ≡ h
            → (let r : FourDepths = record { spades = a; hearts = c; diamonds = e; clubs = g } in r) ≡ record { spades = b; hearts = d; diamonds = f; clubs = h }
        four a b c d e f g h i j k l = rw (i, j, k, l) refl

-- ---- a new cover
-- the first owners of a suit, as they are packed
abbrev pub IsNewTop : Board → FourDepths → Suit → ℕ → ℕ → TopOwners → Type 0
IsNewTop p d u depth owners top = (depth ≡ depth_in d u) × (owners ≡ string_in (strings_of p) u) × (top.mask ≡ 4 ^ depth - 1) × (top.owners ≡ owners % 4 ^ depth)

-- .. are those of the board
new-top : (p : Board) (d : FourDepths) (u : Suit) (depth owners : ℕ) (top : TopOwners) → IsNewTop p d u depth owners top → IsTopOf p d u top
new-top p d u depth owners top t = record {
  mask = t.2 ∙ ap (λ n. 4 ^ n - 1) t.0;
  owners = t.3 ∙ ap₂ (λ m n. m % 4 ^ n) (t.1 ∙ string-number p u) t.0;
}

-- a new cover is packed
pub new-packed : (p start : Board) (d : FourDepths) (s h di c : TopOwners) (a b e f i j k l : ℕ) → start ≡ p → IsBoard p → p.trick ≡ [] → ((u : Suit) → depth_in d u ≤ count_of u (all_cards p))
    → IsNewTop p d Spades a i s → IsNewTop p d Hearts b j h → IsNewTop p d Diamonds e k di → IsNewTop p d Clubs f l c
    → IsPacked (record { start = start; depths = d; spades = s; hearts = h; diamonds = di; clubs = c })
new-packed p start d s h di c a b e f i j k l same valid empty within ts th td tc =
    subst (λ (q : Board). IsPacked (record { start = q; depths = d; spades = s; hearts = h; diamonds = di; clubs = c })) (sym same) (record {
      board = valid;
      no_trick = empty;
      within = within;
      spades_top = new-top p d Spades a i s ts;
      hearts_top = new-top p d Hearts b j h th;
      diamonds_top = new-top p d Diamonds e k di td;
      clubs_top = new-top p d Clubs f l c tc;
    })
