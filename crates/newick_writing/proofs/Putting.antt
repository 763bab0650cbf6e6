-- Bytes put into a text one after the other: a name, the text of what stands under a number, and the whole text. Where
-- there is room for bytes, there is for the first of them; once these are put, for the rest.
use mathlib.Core.Path.{◌≡◌, sym, ◌∙◌}
use mathlib.Core.List.{List, [], ◌∷◌, ◌++◌, append_assoc}
use Prim.Native.Nat.{ℕ, suc, ◌+◌, ◌-◌, ◌*◌, ◌≤◌, ◌<◌}
use native.Mathlib.Nat.{add-zero}
use native.Mathlib.Omega.{arith}
use lib.ListN.{length, get_or, take, drop, set, length-append}
use lib.Seq.{sets, length-sets, drop-cons}
use Rattle.base.proofs.Lists.{sets_append}
use Rattle.trees.specs.Listings.{tree_of}
use Rattle.standard_listings.specs.inner.Standardising.{standard_first, standard_second, AtNode, InOrder}
use Rattle.standard_listings.proofs.Nodes.{part_leaf, part_node, first_below, second_below}
use Rattle.sheet_rules.specs.Sheets.{name, names_of}
use Rattle.sheet_rules.proofs.Names.{names_at}
use Rattle.newick_rules.specs.Reader.{opening, closing, comma, semicolon}
use Rattle.newick_rules.specs.Exporting.{plain, drawing, drawing_of_tree, top_parts, exported}
use Rattle.newick_writing.specs.inner.Writing.{Put, Room, part_text, pair_text, front, end, Judged}
use Rattle.newick_writing.specs.inner.Writing.{NameFits, PartFits, PairFits, FrontFits, Ready}

put_long : {x : List ℕ} {at : ℕ} {t t' : List ℕ} {r : ℕ} → Put x at t t' r → length t' ≡ length t
put_long {x} {at} {t} p = rw p.bytes (length-sets t at x)

-- these bytes, and those behind them
put_both :
    {x y : List ℕ} {at p : ℕ} {t t₁ t₂ : List ℕ} {q : ℕ} → Put x at t t₁ p → Put y p t₁ t₂ q → Put (x ++ y) at t t₂ q
put_both {x} {y} {at} {p} {t} {t₁} {t₂} {q} a b = record {
  next = omega (arith, a.next, b.next, length-append x y);
  bytes = b.bytes ∙ rw (a.bytes, a.next) (sym (sets_append x y t at));
}

room_here : (x y : List ℕ) {at : ℕ} {t : List ℕ} → Room (x ++ y) at t → Room x at t
room_here x y r = record { enough = omega (arith, r.enough, length-append x y) }

room_on : (x y : List ℕ) {at p : ℕ} {t t' : List ℕ} → Room (x ++ y) at t → Put x at t t' p → Room y p t'
room_on x y r p = record { enough = omega (arith, r.enough, length-append x y, p.next, put_long p) }

room_byte : (b : ℕ) {y : List ℕ} {at : ℕ} {t : List ℕ} → Room ((b ∷ []) ++ y) at t → at < length t
room_byte b r = omega (arith, r.enough)

-- What is left to put of m bytes of S from a on, once k of them are put.
abbrev pub left_put : (S : List ℕ) (a m at : ℕ) (t : List ℕ) (k : ℕ) → List ℕ
left_put S a m at t k = sets t (at + k) (take (m - k) (drop (a + k) S))

pub left_more :
    (S : List ℕ) (a m at : ℕ) (t : List ℕ) (k : ℕ) → k < m → a + m ≤ length S
    → left_put S a m at (set t (at + k) (get_or S (a + k) 0)) (k + 1) ≡ left_put S a m at t k
left_more S a m at t k h l =
    let e : m - k ≡ suc (m - (k + 1)) = omega arith in
    let f : a + (k + 1) ≡ suc (a + k) = omega arith in
    let g : at + (k + 1) ≡ suc (at + k) = omega arith in
    rw (e, f, g, drop-cons S (a + k) 0 (omega arith))

pub left_whole :
    (S : List ℕ) (a m at : ℕ) (t : List ℕ) → left_put S a m at t 0 ≡ sets t at (take m (drop a S))
left_whole S a m at t = let e : m - 0 ≡ m = omega arith in rw (e, add-zero a, add-zero at)

pub left_none : (S : List ℕ) (a m at : ℕ) (t : List ℕ) (k : ℕ) → m ≤ k → left_put S a m at t k ≡ t
left_none S a m at t k h = let e : m - k ≡ 0 = omega arith in rw e

regrouped :
    (x a b : List ℕ)
    → (opening ∷ ((x ++ (comma ∷ a)) ++ (comma ∷ b)) ++ (closing ∷ [])) ++ (semicolon ∷ [])
    ≡ ((opening ∷ []) ++ (x ++ (comma ∷ []))) ++ ((a ++ ((comma ∷ []) ++ b)) ++ ((closing ∷ []) ++ (semicolon ∷ [])))
regrouped x a b = simp append_assoc

-- A sheet and a listing as they were judged.
module _ {S : List ℕ} {n : ℕ} {l : List ℕ} (g : Judged S n l) where
  node_at : (v : ℕ) → n ≤ v → v < 2 * n - 2 → AtNode n l v
  node_at v low high = record { count = g.count; keeps = g.keeps; low = low; high = high }

  leaf_text : (v : ℕ) → v < n → part_text S n l v ≡ name S v
  unfolding drawing plain
  leaf_text v h = rw (part_leaf n l v h) (names_at S v (rw g.leaves at h))

  node_text :
      (v : ℕ) → n ≤ v → v < 2 * n - 2
      → part_text S n l v ≡ (opening ∷ []) ++ (pair_text S n l v ++ (closing ∷ []))
  unfolding drawing plain
  node_text v low high = rw (part_node (node_at v low high))

  tree_text : exported (names_of S) (tree_of n l) ≡ front S ++ (pair_text S n l (2 * n - 3) ++ end)
  unfolding exported drawing_of_tree top_parts plain tree_of
  tree_text =
      rw (
        part_node (node_at (2 * n - 3) (omega (arith, g.count)) (omega (arith, g.count))),
        names_at S 0 (omega (arith, g.count, g.leaves)),
      )
      (regrouped (name S 0) (part_text S n l (standard_first n l (2 * n - 3)))
      (part_text S n l (standard_second n l (2 * n - 3))))

-- a leaf: its name
module _ {S starts : List ℕ} {n : ℕ} {l sorted : List ℕ} {v at : ℕ} {t : List ℕ}
    (f : PartFits S starts n l sorted v at t) (h : v < n) where
  pub name_fits : NameFits S starts v at t
  name_fits = record { placed = f.known.places v h; room = rw (leaf_text f.known.judged v h) at f.room }

  pub leaf_put : {t' : List ℕ} {r : ℕ} → Put (name S v) at t t' r → Put (part_text S n l v) at t t' r
  leaf_put p = rw (leaf_text f.known.judged v h) p

-- a node, step by step: a bracket, its children, a bracket
module _ {S starts : List ℕ} {n : ℕ} {l sorted : List ℕ} {v at : ℕ} {t : List ℕ}
    (f : PartFits S starts n l sorted v at t) (low : n ≤ v) where
  whole_room : Room ((opening ∷ []) ++ (pair_text S n l v ++ (closing ∷ []))) at t
  whole_room = rw (node_text f.known.judged v low f.high) at f.room

  pub open_fits : at < length t
  open_fits = room_byte opening whole_room

  module _ {t₁ : List ℕ} {p : ℕ} (opened : Put (opening ∷ []) at t t₁ p) where
    pair_room : Room (pair_text S n l v ++ (closing ∷ [])) p t₁
    pair_room = room_on (opening ∷ []) _ whole_room opened

    pub pair_fits : PairFits S starts n l sorted v p t₁
    pair_fits = record { known = f.known; low = low; high = f.high; room = room_here (pair_text S n l v) _ pair_room }

    module _ {t₂ : List ℕ} {q : ℕ} (paired : Put (pair_text S n l v) p t₁ t₂ q) where
      pub close_fits : q < length t₂
      close_fits = room_byte closing (room_on (pair_text S n l v) (closing ∷ []) pair_room paired)

      pub node_put : {t₃ : List ℕ} {r : ℕ} → Put (closing ∷ []) q t₂ t₃ r → Put (part_text S n l v) at t t₃ r
      node_put closed =
          rw (node_text f.known.judged v low f.high) (put_both opened (put_both paired closed))

-- the children of a node, as the code has them
pub record Children (n : ℕ) (l : List ℕ) (v a b : ℕ) : Type 0 where
  pub first_is : a ≡ standard_first n l v
  pub second_is : b ≡ standard_second n l v
  pub first_low : a < v
  pub second_low : b < v

module _ {S starts : List ℕ} {n : ℕ} {l sorted : List ℕ} {v at : ℕ} {t : List ℕ}
    (f : PairFits S starts n l sorted v at t) where
  pub children_are :
      {a b : ℕ} → a ≡ get_or sorted (2 * (v - n)) 0 → b ≡ get_or sorted (2 * (v - n) + 1) 0 → Children n l v a b
  children_are ea eb =
      let w = node_at f.known.judged v f.low f.high in
      let fa = ea ∙ f.known.order.firsts v f.low f.high in
      let fb = eb ∙ f.known.order.seconds v f.low f.high in
      record {
        first_is = fa;
        second_is = fb;
        first_low = rw fa (first_below w);
        second_low = rw fb (second_below w);
      }

  -- step by step: the first, a comma, the second
  module _ {a b : ℕ} (c : Children n l v a b) where
    both_room : Room (part_text S n l a ++ ((comma ∷ []) ++ part_text S n l b)) at t
    both_room = rw (c.first_is, c.second_is) f.room

    child_fits :
        (x : ℕ) → x < v → {p : ℕ} {o : List ℕ} → Room (part_text S n l x) p o → PartFits S starts n l sorted x p o
    child_fits x low room = record { known = f.known; high = omega (arith, f.high); room = room }

    pub first_fits : PartFits S starts n l sorted a at t
    first_fits = child_fits a c.first_low (room_here (part_text S n l a) _ both_room)

    module _ {t₁ : List ℕ} {p : ℕ} (first : Put (part_text S n l a) at t t₁ p) where
      rest_room : Room ((comma ∷ []) ++ part_text S n l b) p t₁
      rest_room = room_on (part_text S n l a) _ both_room first

      pub comma_fits : p < length t₁
      comma_fits = room_byte comma rest_room

      module _ {t₂ : List ℕ} {q : ℕ} (between : Put (comma ∷ []) p t₁ t₂ q) where
        pub second_fits : PartFits S starts n l sorted b q t₂
        second_fits = child_fits b c.second_low (room_on (comma ∷ []) _ rest_room between)

        pub pair_put :
            {t₃ : List ℕ} {r : ℕ} → Put (part_text S n l b) q t₂ t₃ r → Put (pair_text S n l v) at t t₃ r
        pair_put second = rw (← c.first_is, ← c.second_is) (put_both first (put_both between second))

-- How a text begins, step by step: a bracket, leaf 0's name, a comma.
module _ {S starts t : List ℕ} (f : FrontFits S starts t) where
  pub front_open : 0 < length t
  front_open = room_byte opening f.room

  module _ {t₁ : List ℕ} {p : ℕ} (opened : Put (opening ∷ []) 0 t t₁ p) where
    front_room : Room (name S 0 ++ (comma ∷ [])) p t₁
    front_room = room_on (opening ∷ []) _ f.room opened

    pub front_name : NameFits S starts 0 p t₁
    front_name = record { placed = f.placed; room = room_here (name S 0) _ front_room }

    module _ {t₂ : List ℕ} {q : ℕ} (named : Put (name S 0) p t₁ t₂ q) where
      pub front_comma : q < length t₂
      front_comma = room_byte comma (room_on (name S 0) (comma ∷ []) front_room named)

      pub front_put : {t₃ : List ℕ} {r : ℕ} → Put (comma ∷ []) q t₂ t₃ r → Put (front S) 0 t t₃ r
      front_put parted = put_both opened (put_both named parted)

-- How it ends: a bracket, a semicolon.
pub end_put :
    {at : ℕ} {t t₁ t₂ : List ℕ} {p q : ℕ} → Put (closing ∷ []) at t t₁ p → Put (semicolon ∷ []) p t₁ t₂ q
    → Put end at t t₂ q
end_put closed ended = put_both closed ended

-- The whole: how it begins, the children of the last node, how it ends.
module _ {S starts : List ℕ} {n : ℕ} {l t : List ℕ} (f : Ready S starts n l t) where
  text_room : Room (front S ++ (pair_text S n l (2 * n - 3) ++ end)) 0 t
  text_room = rw (tree_text f.judged) at f.room

  pub front_fits : FrontFits S starts t
  front_fits = record {
    placed = f.places 0 (omega (arith, f.judged.count));
    room = room_here (front S) _ text_room;
  }

  module _ {sorted t₁ : List ℕ} {p : ℕ} (order : InOrder n l (2 * n - 2) sorted)
      (begun : Put (front S) 0 t t₁ p) where
    last_room : Room (pair_text S n l (2 * n - 3) ++ end) p t₁
    last_room = room_on (front S) _ text_room begun

    pub last_fits : PairFits S starts n l sorted (2 * n - 3) p t₁
    last_fits = record {
      known = record { judged = f.judged; places = f.places; order = order };
      low = omega (arith, f.judged.count);
      high = omega (arith, f.judged.count);
      room = room_here (pair_text S n l (2 * n - 3)) _ last_room;
    }

    module _ {t₂ : List ℕ} {q : ℕ} (paired : Put (pair_text S n l (2 * n - 3)) p t₁ t₂ q) where
      pub end_fits : Room end q t₂
      end_fits = room_on (pair_text S n l (2 * n - 3)) end last_room paired

      pub text_put :
          {t₃ : List ℕ} {r : ℕ} → Put end q t₂ t₃ r → Put (exported (names_of S) (tree_of n l)) 0 t t₃ r
      text_put ended = rw (tree_text f.judged) (put_both begun (put_both paired ended))
