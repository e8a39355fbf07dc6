-- Steps that may come.
use Rattle.std.proofs.Common.{◌≡◌, ℕ, zero, suc, ◌≤◌, arith, refl, sym, ap, ◌∙◌, subst, List, [], ◌∷◌, ◌++◌, length, take, Contains, Some, None, Option, inl, inr}
use Rattle.std.specs.Prelude.{slice_get, ◌↔◌}
use Rattle.dd_cards.specs.declared.suit.Suit.{Suit}
use Rattle.dd_play.specs.Board.{Board, IsBoard}
use Rattle.dd_play.specs.Covers.{count_of}
use Rattle.dd_play.specs.Value.{leaders_tricks}
use Rattle.dd_rank.specs.Alike.{AreAlike}
use Rattle.dd_rank.specs.Depths.{Covers, all_cards, depth_in}
use Rattle.dd_rank.specs.Strings.{shape_of}
use Rattle.dd_shard.specs.Entries.{Entries, Entry, Looks, Notes, Told, pair_at}
use Rattle.dd_book.specs.Calls.{after, reply_of}
use Rattle.dd_desk.specs.Events.{event}
use Rattle.dd_table.specs.Front.{Exact}
use Rattle.dd_runs.specs.Worlds.{World}
use Rattle.dd_runs.specs.Steps.{Exchanges, IsStart, exact}
use Rattle.dd_runs.specs.Runs.{Leads}
use Rattle.dd_runs.specs.MayCome.{CallsMayCome, NotesMayBeTold, SetsMayBeTold}
use Rattle.dd_runs.proofs.Lists.{Contains-nil}

-- ---- lists

-- a list cut at a place
record Cut {X : Type 0} (xs : List X) (place : ℕ) (x : X) : Type 0 where
  front : List X
  back : List X
  at : length front ≡ place
  whole : xs ≡ front ++ x ∷ back

cut : {X : Type 0} (xs : List X) (place : ℕ) (x : X) → slice_get xs place ≡ Some x → Cut xs place x
cut [] place x h = absurd (cc)
cut (y ∷ ys) zero x h = record { front = []; back = ys; at = refl; whole = (let same : y ≡ x = cc in ap (λ z. z ∷ ys) same) }
cut (y ∷ ys) (suc place) x h =
    let c = cut ys place x h in
    record { front = y ∷ c.front; back = c.back; at = ap suc c.at; whole = ap (λ l. y ∷ l) c.whole }

-- another element at that place
exchange : {X : Type 0} (front back : List X) (place : ℕ) (x y : X) → length front ≡ place → Exchanges place (front ++ x ∷ back) (front ++ y ∷ back) x y
exchange front back place x y at' = record { front = front; back = back; at = at'; before = refl; after = refl }

middle : {X : Type 0} (front back : List X) (x : X) → slice_get (front ++ x ∷ back) (length front) ≡ Some x
middle [] back x = refl
middle (y ∷ front) back x = middle front back x

take-one : {X : Type 0} (n : ℕ) (x : X) → 1 ≤ n → take n (x ∷ []) ≡ x ∷ []
take-one zero x h = absurd (omega arith)
take-one (suc zero) x h = refl
take-one (suc (suc n)) x h = refl

-- ---- calls

pub calls-come : CallsMayCome
unfolding Leads
calls-come at u k c by right =
    let w : World = record {
      book = after u.book c;
      journal = u.journal ++ event k c (reply_of u.book c) ∷ [];
      shards = u.shards;
      front = u.front;
    } in (w, (w, (by, right), (refl, refl, refl, (refl, refl)), refl))

-- ---- notes and looks

-- the entry of one note
noted : Board → Told → Entry
noted p told = record { shape = shape_of p; pairs = pair_at p told ∷ [] }

the-note : (p : Board) (told : Told) (shard : Entries) → shard.list ≡ [] → 1 ≤ shard.limit → Notes p told shard (record { list = noted p told ∷ []; limit = shard.limit })
unfolding noted
the-note p told shard none room = record {
  limit = refl;
  noted = inr (
    λ e has same. Contains-nil e (subst (λ (l : List Entry). Contains l e) none has),
    sym (ap (λ (l : List Entry). take shard.limit (noted p told ∷ l)) none ∙ take-one shard.limit (noted p told) room),
  );
}

the-look : (p : Board) (told : Told) (limit : ℕ) → Covers p (depth_in told.depths) p
    → (let s : Entries = record { list = noted p told ∷ []; limit = limit } in Looks p (Some told) s s)
unfolding noted
the-look p told limit covers = record {
  limit = refl;
  looked = inl (
    noted p told,
    record { of_shape = refl; moved = ([], [], refl, refl) },
    ([], pair_at p told, [], refl, λ x has. absurd (Contains-nil x has), covers, refl),
  );
}

-- a position covers itself at depths that its cards allow
abbrev pub ItselfLaw : Type 0
ItselfLaw = (p : Board) (depths : Suit → ℕ) → p.trick ≡ [] → ((u : Suit) → depths u ≤ count_of u (all_cards p)) → Covers p depths p

pub notes-told : ItselfLaw → NotesMayBeTold
unfolding Leads
notes-told itself at u shard p told start depths holds here none room =
    let c = cut u.shards (at.shard_of p) shard here in
    let new : Entries = record { list = noted p told ∷ []; limit = shard.limit } in
    let w : World = record { book = u.book; journal = u.journal; shards = c.front ++ new ∷ c.back; front = u.front } in
    let first : Exchanges (at.shard_of p) u.shards w.shards shard new = subst (λ (l : List Entries). Exchanges (at.shard_of p) l w.shards shard new) (sym c.whole) (exchange c.front c.back (at.shard_of p) shard new c.at) in
    let second : Exchanges (at.shard_of p) w.shards w.shards new new = exchange c.front c.back (at.shard_of p) new new c.at in (
      w,
      (
        w,
        (start, depths, holds),
        ((refl, refl), refl, (shard, new, first, inl (the-note p told shard none room))),
        (w, start, ((refl, refl), refl, (new, new, second, the-look p told shard.limit (itself p (depth_in told.depths) start.1 depths))), refl),
      ),
    )

-- ---- sets and gets

-- full depths cover just the alike positions
abbrev pub FullLaw : Type 0
FullLaw = (p q : Board) (depths : Suit → ℕ) → IsBoard p → IsBoard q → ((u : Suit) → depths u ≡ count_of u (all_cards p)) → (Covers p depths q ↔ AreAlike p q)

-- a position is alike to itself
alike-itself : ItselfLaw → FullLaw → (p : Board) → IsStart p → AreAlike p p
alike-itself itself full p start =
    let depths : Suit → ℕ = λ u. count_of u (all_cards p) in
    (full p p depths start.0 start.0 (λ u. refl)).0 (itself p depths start.1 (λ u. omega arith))

pub sets-told : ItselfLaw → FullLaw → SetsMayBeTold
unfolding Leads
sets-told itself full at u p start here =
    let c = cut u.front (at.cell_of p) None here in
    let new : Option Exact = Some (exact p (leaders_tricks p)) in
    let w : World = record { book = u.book; journal = u.journal; shards = u.shards; front = c.front ++ new ∷ c.back } in
    let first : Exchanges (at.cell_of p) u.front w.front None new = subst (λ (l : List (Option Exact)). Exchanges (at.cell_of p) l w.front None new) (sym c.whole) (exchange c.front c.back (at.cell_of p) None new c.at) in
    let there : slice_get w.front (at.cell_of p) ≡ Some new = subst (λ (n : ℕ). slice_get w.front n ≡ Some new) c.at (middle c.front c.back new) in (
      w,
      (
        w,
        (start, refl, refl),
        ((refl, refl), refl, (None, new, first, inl refl)),
        (w, start, (refl, (new, there, (exact p (leaders_tricks p), refl, alike-itself itself full p start, refl))), refl),
      ),
    )
