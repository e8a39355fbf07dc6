-- texts with a byte between each two, made from the left
use Rattle.std.proofs.Common.{◌≡◌, ℕ, zero, suc, ◌+◌, ◌<◌, refl, sym, ap, ◌∙◌, arith, List, [], ◌∷◌, ◌++◌, length, take, get_or, map, append_assoc, append-nil, length-take-le}
use Rattle.std.proofs.lemmas.List.{take_more, map-append}
use Rattle.std.specs.List.{join_with_byte}

-- one text more comes after the byte
pub join-more : (c : ℕ) (x : List ℕ) (xs : List (List ℕ)) (y : List ℕ) → join_with_byte c ((x ∷ xs) ++ y ∷ []) ≡ join_with_byte c (x ∷ xs) ++ c ∷ y
join-more c x [] y = refl
join-more c x (z ∷ xs) y =
    ap (λ t. x ++ c ∷ t) (join-more c z xs y) ∙ sym (append_assoc x (c ∷ join_with_byte c (z ∷ xs)) (c ∷ y))

-- the text of one item more comes after the byte, where there is an item before it
join-push : {X : Type 0} (c : ℕ) (f : X → List ℕ) (ts : List X) (y : X) → 0 < length ts → join_with_byte c (map f (ts ++ y ∷ [])) ≡ join_with_byte c (map f ts) ++ c ∷ f y
join-push c f [] y some = absurd (omega arith)
join-push c f (t ∷ ts) y some = ap (λ xs. join_with_byte c (f t ∷ xs)) (map-append f ts (y ∷ [])) ∙ join-more c (f t) (map f ts) (f y)

-- the first text has no byte before it
pub join-first : {X : Type 0} (c : ℕ) (f : X → List ℕ) (items : List X) (place : ℕ) (d : X) (head text : List ℕ)
    → place ≡ 0 → place < length items → text ≡ head ++ join_with_byte c (map f (take place items))
    → text ++ f (get_or items place d) ≡ head ++ join_with_byte c (map f (take (place + 1) items))
join-first c f [] place d head text none within e = absurd (omega arith)
join-first c f (x ∷ items) zero d head text none within e = ap (λ t. t ++ f x) (e ∙ append-nil head)
join-first c f (x ∷ items) (suc place) d head text none within e = absurd (omega arith)

-- each other text has the byte before it
pub join-next : {X : Type 0} (c : ℕ) (f : X → List ℕ) (items : List X) (place : ℕ) (d : X) (head text : List ℕ)
    → 0 < place → place < length items → text ≡ head ++ join_with_byte c (map f (take place items))
    → (text ++ c ∷ []) ++ f (get_or items place d) ≡ head ++ join_with_byte c (map f (take (place + 1) items))
join-next {X} c f items place d head text some within e =
    let y : X = get_or items place d in
    let before : List X = take place items in
    let joined : List ℕ = join_with_byte c (map f before) in
    let many : 0 < length before = (let k = length-take-le place items (omega arith) in omega (arith, k)) in
    ap (λ t. (t ++ c ∷ []) ++ f y) e
    ∙ append_assoc (head ++ joined) (c ∷ []) (f y)
    ∙ append_assoc head joined (c ∷ f y)
    ∙ ap (λ t. head ++ t) (sym (join-push c f before y many))
    ∙ ap (λ ts. head ++ join_with_byte c (map f ts)) (sym (take_more items place d within))
