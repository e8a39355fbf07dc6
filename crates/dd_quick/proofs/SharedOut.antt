-- tricks that are shared out among the suits, first to those that pass
use Rattle.std.proofs.Common.{◌≡◌, ℕ, ◌+◌, ◌-◌, ◌≤◌, Bool, true, false, refl, arith, min, inl, inr}
use Rattle.std.specs.Prelude.{if◌then◌else◌}
use Rattle.std.proofs.lemmas.Bool.{cases_lt}
use Rattle.dd_quick.specs.Sharing.{SomeOf}

-- what a suit gets in the first round is no more than is needed
long-small : (b : Bool) (t n x : ℕ) → x ≡ (if b then min t n else 0) → x ≤ n
long-small true t n x e = omega (arith, e)
long-small false t n x e = omega (arith, e)

-- and so in the second
other-small : (b : Bool) (t n x : ℕ) → x ≡ (if b then 0 else min t n) → x ≤ n
other-small true t n x e = omega (arith, e)
other-small false t n x e = omega (arith, e)

-- what a suit gets in both rounds is no more than it has, and all of it where some need is left
one-suit : (b : Bool) (t l m x y f : ℕ) → x ≡ (if b then min t l else 0) → y ≡ (if b then 0 else min t m) → f + x ≤ l → f + y ≤ m → (x + y ≤ t) × (1 ≤ f → x + y ≡ t)
one-suit true t l m x y f e g h k = (omega (arith, e, g), λ s. omega (arith, e, g, h, s))
one-suit false t l m x y f e g h k = (omega (arith, e, g), λ s. omega (arith, e, g, k, s))

-- the shares of four suits are what is needed, or all
pub shared : (p q r s : Bool) (t u v w n : ℕ) (a b c d e f g h : ℕ) → a ≡ (if p then min t n else 0) → b ≡ (if q then min u (n - a) else 0) → c ≡ (if r then min v (n - a - b) else 0) → d ≡ (if s then min w (n - a - b - c) else 0)
    → e ≡ (if p then 0 else min t (n - a - b - c - d)) → f ≡ (if q then 0 else min u (n - a - b - c - d - e)) → g ≡ (if r then 0 else min v (n - a - b - c - d - e - f)) → h ≡ (if s then 0 else min w (n - a - b - c - d - e - f - g))
    → a + e + (b + f) + (c + g) + (d + h) ≡ min n (t + u + v + w)
shared p q r s t u v w n a b c d e f g h ea eb ec ed ee ef eg eh =
    let la = long-small p t n a ea in
    let lb = long-small q u (n - a) b eb in
    let lc = long-small r v (n - a - b) c ec in
    let ld = long-small s w (n - a - b - c) d ed in
    let le = other-small p t (n - a - b - c - d) e ee in
    let lf = other-small q u (n - a - b - c - d - e) f ef in
    let lg = other-small r v (n - a - b - c - d - e - f) g eg in
    let lh = other-small s w (n - a - b - c - d - e - f - g) h eh in
    let x = one-suit p t n (n - a - b - c - d) a e (n - a - b - c - d - e - f - g - h) ea ee (omega (arith, la, lb, lc, ld, le, lf, lg, lh)) (omega (arith, la, lb, lc, ld, le, lf, lg, lh)) in
    let y = one-suit q u (n - a) (n - a - b - c - d - e) b f (n - a - b - c - d - e - f - g - h) eb ef (omega (arith, la, lb, lc, ld, le, lf, lg, lh)) (omega (arith, la, lb, lc, ld, le, lf, lg, lh)) in
    let z = one-suit r v (n - a - b) (n - a - b - c - d - e - f) c g (n - a - b - c - d - e - f - g - h) ec eg (omega (arith, la, lb, lc, ld, le, lf, lg, lh)) (omega (arith, la, lb, lc, ld, le, lf, lg, lh)) in
    let i = one-suit s w (n - a - b - c) (n - a - b - c - d - e - f - g) d h (n - a - b - c - d - e - f - g - h) ed eh (omega (arith, la, lb, lc, ld, le, lf, lg, lh)) (omega (arith, la, lb, lc, ld, le, lf, lg, lh)) in
    let x0 = x.0 in
    let y0 = y.0 in
    let z0 = z.0 in
    let i0 = i.0 in
    elim (cases_lt 0 (n - a - b - c - d - e - f - g - h)) [
      | inl k ↦ (let x1 = x.1 k in let y1 = y.1 k in let z1 = z.1 k in let i1 = i.1 k in omega (arith, x1, y1, z1, i1, k, la, lb, lc, ld, le, lf, lg, lh))
      | inr k ↦ omega (arith, x0, y0, z0, i0, k, la, lb, lc, ld, le, lf, lg, lh)
    ]

-- a suit with a share of the first round is asked first
is-first : (b : Bool) (t n x : ℕ) → x ≡ (if b then min t n else 0) → 1 ≤ x → b ≡ true
is-first true t n x e some = refl
is-first false t n x e some = absurd (omega (arith, e, some))

-- and one that is asked first and gets none has none
none-first : (b : Bool) (t n x : ℕ) → x ≡ (if b then min t n else 0) → x ≤ 0 → 1 ≤ n → b ≡ true → 1 ≤ t → ⊥
none-first true t n x e none need marked some = omega (arith, e, none, need, some)
none-first false t n x e none need marked some = absurd (cc)

-- of the suits that are asked first and have some one has a share
pub first-share : (p q r s : Bool) (t u v w n : ℕ) (a b c d e f g h : ℕ) → a ≡ (if p then min t n else 0) → b ≡ (if q then min u (n - a) else 0) → c ≡ (if r then min v (n - a - b) else 0) → d ≡ (if s then min w (n - a - b - c) else 0)
    → 1 ≤ n → SomeOf p q r s t u v w → SomeOf p q r s (a + e) (b + f) (c + g) (d + h)
first-share p q r s t u v w n a b c d e f g h ea eb ec ed need some = elim (cases_lt 0 a) [
  | inl x ↦ inl (inl (is-first p t n a ea x, omega (arith, x)))
  | inr za ↦ elim (cases_lt 0 b) [
    | inl x ↦ inl (inr (is-first q u (n - a) b eb x, omega (arith, x)))
    | inr zb ↦ elim (cases_lt 0 c) [
      | inl x ↦ inr (inl (is-first r v (n - a - b) c ec x, omega (arith, x)))
      | inr zc ↦ elim (cases_lt 0 d) [
        | inl x ↦ inr (inr (is-first s w (n - a - b - c) d ed x, omega (arith, x)))
        | inr zd ↦ absurd (elim some [
          | inl l ↦ elim l [
            | inl k ↦ none-first p t n a ea za need k.0 k.1
            | inr k ↦ none-first q u (n - a) b eb zb (omega (arith, za, need)) k.0 k.1
          ]
          | inr l ↦ elim l [
            | inl k ↦ none-first r v (n - a - b) c ec zc (omega (arith, za, zb, need)) k.0 k.1
            | inr k ↦ none-first s w (n - a - b - c) d ed zd (omega (arith, za, zb, zc, need)) k.0 k.1
          ]
        ])
      ]
    ]
  ]
]
