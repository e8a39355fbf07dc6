-- The lines of an output, and two outputs for the same lines.
use Rattle.std.proofs.Common.{◌≡◌, ◌∙◌, ◌⊎◌, ◌==◌, ℕ, Bool, true, false, inl, inr, refl, sym, ap, subst, arith, append-nil, List, [], ◌∷◌, ◌++◌, Option, None, Some}
use Rattle.std.specs.Prelude.{Contains, nat_le, if◌then◌else◌}
use Rattle.std.proofs.lemmas.Bool.{and_parts}
use Rattle.std.proofs.lemmas.Bool.Decides.{nat_tests}
use Rattle.std.proofs.lemmas.List.Elements.{Contains-append_right}
use Rattle.dd_lines.specs.Lines.{line_feed, lines, longer_first}
use Rattle.dd_wire.specs.declared.fault.Fault.TheVariants.{OutOfMemory}
use Rattle.dd_bounds.specs.Spent.{IsSpent}
use Rattle.dd_wire.specs.Explained.{IsExplained}
use Rattle.dd_wire.specs.FaultWords.{fault_told}
use Rattle.dd_wire.specs.LineReplies.{AreOneBut, IsReply}
use Rattle.dd_wire.specs.Replies.{fault_text, is_one_line}
use Rattle.dd_tool.specs.Served.{AreReplies, AreSameBut, AreTold, IsReplyAs, ToldAll}

-- ---- the lines of an output
-- no byte of a line ends it
is_within : (byte : ℕ) → nat_le 32 byte ≡ true → (byte == line_feed) ≡ false
is_within byte visible = grind (arith, nat_tests)

-- a line, the byte that ends it, and more
lines-first : (text more : List ℕ) → is_one_line text ≡ true → lines (text ++ line_feed ∷ more) ≡ text ∷ lines more
lines-first [] more one = refl
lines-first (byte ∷ text) more one =
    let parts = and_parts (nat_le 32 byte) (is_one_line text) one in
    ap (λ (b : Bool). if b then [] ∷ lines (text ++ line_feed ∷ more) else longer_first byte (lines (text ++ line_feed ∷ more))) (is_within byte parts.0)
    ∙ ap (longer_first byte) (lines-first text more parts.1)

module _ (Reply : List ℕ → List ℕ → Type 0) (is_one : (line text : List ℕ) → Reply line text → is_one_line text ≡ true) where
  told-lines : (all : List (List ℕ)) (output : List ℕ) → AreTold Reply all output → AreReplies Reply all (lines output)
  told-lines [] output none = subst (λ (l : List ℕ). AreReplies Reply [] (lines l)) (sym none) tt
  told-lines (line ∷ rest) output (text, more, reply, replies, split) =
      subst (λ (t : List (List ℕ)). AreReplies Reply (line ∷ rest) t) (sym (ap lines split ∙ lines-first text more (is_one line text reply)))
      (reply, told-lines rest more replies)

-- ---- two outputs
module _ (said : List ℕ) (Reply : List ℕ → List ℕ → Type 0) (one : (line a b : List ℕ) → Reply line a → Reply line b → AreOneBut said a b)
    (is_one : (line text : List ℕ) → Reply line text → is_one_line text ≡ true) where
  -- a line of an output is this one
  first-says : (output text more : List ℕ) → lines output ≡ text ∷ lines more → text ≡ said → Contains (lines output) said
  first-says output text more split same = subst (λ (l : List (List ℕ)). Contains l said) (sym split) (0, omega arith, same)

  other-says : (output text more : List ℕ) → lines output ≡ text ∷ lines more → Contains (lines more) said → Contains (lines output) said
  other-says output text more split says = subst (λ (l : List (List ℕ)). Contains l said) (sym split) (Contains-append_right (text ∷ []) (lines more) said says)

  -- where a line has one reply, but for this one, lines have one output, but where that stands in it
  one-told : (all : List (List ℕ)) (a b : List ℕ) → AreTold Reply all a → AreTold Reply all b → (a ≡ b) ⊎ Contains (lines a) said ⊎ Contains (lines b) said
  one-told [] a b is_a is_b = inl (is_a ∙ sym is_b)
  one-told (line ∷ rest) a b (s, m, reply_s, replies_m, e) (t, n, reply_t, replies_n, f) = go (one line s t reply_s reply_t) (one-told rest m n replies_m replies_n)
    where
      cut_a : lines a ≡ s ∷ lines m
      cut_a = ap lines e ∙ lines-first s m (is_one line s reply_s)

      cut_b : lines b ≡ t ∷ lines n
      cut_b = ap lines f ∙ lines-first t n (is_one line t reply_t)

      go : AreOneBut said s t → (m ≡ n) ⊎ Contains (lines m) said ⊎ Contains (lines n) said → (a ≡ b) ⊎ Contains (lines a) said ⊎ Contains (lines b) said
      go (inr (inl is)) more = inr (inl (first-says a s m cut_a is))
      go (inr (inr is)) more = inr (inr (first-says b t n cut_b is))
      go (inl same) (inl more) = inl (e ∙ ap (λ l. l ++ line_feed ∷ m) same ∙ ap (λ l. t ++ line_feed ∷ l) more ∙ sym f)
      go (inl same) (inr (inl says)) = inr (inl (other-says a s m cut_a says))
      go (inl same) (inr (inr says)) = inr (inr (other-says b t n cut_b says))

module _ (plain_line : (budget : Option ℕ) (line text : List ℕ) → IsReply (IsSpent budget) line text → is_one_line text ≡ true)
    (explained_line : (budget : Option ℕ) (line text : List ℕ) → IsExplained (IsSpent budget) line text → is_one_line text ≡ true) where
  pub each-line : (explain : Bool) (budget : Option ℕ) (all : List (List ℕ)) (output : List ℕ) → AreTold (IsReplyAs explain budget) all output → AreReplies (IsReplyAs explain budget) all (lines output)
  each-line false budget = told-lines (IsReply (IsSpent budget)) (plain_line budget)
  each-line true budget = told-lines (IsExplained (IsSpent budget)) (explained_line budget)

  module _ (plain : (line a b : List ℕ) → IsReply (IsSpent None) line a → IsReply (IsSpent None) line b → AreOneBut (fault_text OutOfMemory) a b)
      (explained : (line a b : List ℕ) → IsExplained (IsSpent None) line a → IsExplained (IsSpent None) line b → AreOneBut (fault_told OutOfMemory None) a b) where
    pub one-output : (explain : Bool) (all : List (List ℕ)) (a b : List ℕ) → AreTold (IsReplyAs explain None) all a → AreTold (IsReplyAs explain None) all b → AreSameBut explain a b
    one-output false = one-told (fault_text OutOfMemory) (IsReply (IsSpent None)) plain (plain_line None)
    one-output true = one-told (fault_told OutOfMemory None) (IsExplained (IsSpent None)) explained (explained_line None)

    -- what a run over this input told, to its end
    told : (explain : Bool) (input a : List ℕ) → ToldAll (IsReplyAs explain None) (Some input) (Some []) (Some []) (Some a) → AreTold (IsReplyAs explain None) (lines input) a
    told explain input a all =
        let read : all.input ≡ input = sym (append-nil all.input) ∙ sym all.consumed in
        subst (λ (l : List ℕ). AreTold (IsReplyAs explain None) (lines input) l) (sym all.written)
        (subst (λ (l : List ℕ). AreTold (IsReplyAs explain None) (lines l) all.output) read all.answered)

    pub one-run : (explain : Bool) (input a b : List ℕ) → ToldAll (IsReplyAs explain None) (Some input) (Some []) (Some []) (Some a)
        → ToldAll (IsReplyAs explain None) (Some input) (Some []) (Some []) (Some b) → AreSameBut explain a b
    one-run explain input a b told_a told_b = one-output explain (lines input) a b (told explain input a told_a) (told explain input b told_b)
