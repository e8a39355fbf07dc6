use Rattle.std.proofs.Common.{◌≡◌, ℕ, ◌*◌, ◌^◌, ◌-◌, ◌%◌, ◌≤◌, ap, ◌∙◌, arith, bit_and}
use Rattle.std.proofs.lemmas.Nat.{one_shl, and_mask}
use Rattle.dd_rank.proofs.Digits.{two-bits}
use Rattle.dd_rank.proofs.cover.TopOwners.of.Goals as goal

-- the bit above so many digits
above-digits : (d : ℕ) → d ≤ 13 → 1 * 2 ^ (2 * d) % 4294967296 ≡ 4 ^ d
above-digits d h = one_shl (2 * d) 32 (omega (arith, h)) ∙ two-bits d

pub returns-clause-mask : goal.returns-clause-mask
returns-clause-mask c = ap (λ n. n - 1) (above-digits c.args.depth c.requires)

pub returns-clause-owners : goal.returns-clause-owners
returns-clause-owners c =
    ap (λ n. bit_and c.args.owners (n - 1)) (one_shl (2 * c.args.depth) 32 (let h = c.requires in omega (arith, h)))
    ∙ and_mask c.args.owners (2 * c.args.depth) ∙ ap (λ n. c.args.owners % n) (two-bits c.args.depth)
