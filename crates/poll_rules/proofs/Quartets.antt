-- The quartets of n leaves in lexicographic order: worked cases, how many there are, and which one comes next.
-- What is left of the list from a quartet on is that quartet, and what is left from the next one on.
use mathlib.Core.Path.{◌≡◌, refl, ap, sym, ◌∙◌, fun_ext}
use mathlib.Core.Logic.{◌⊎◌, inl, inr}
use mathlib.Core.List.{List, [], ◌∷◌, ◌++◌, map, flat_map, append_assoc}
use Prim.Native.Nat.{ℕ, zero, suc, ◌+◌, ◌-◌, ◌*◌, ◌≤◌, ◌<◌}
use native.Mathlib.Nat.{add-zero, add_assoc, sub-zero, mul_assoc, mul_comm}
use native.Mathlib.Omega.{arith}
use native.Mathlib.Decide.{dec_lt}
use borrow.Author.Tests.{lt-ltb, le-ltb}
use lib.ListN.{length, length-append, length-map}
use Rattle.base.specs.Lists.{tab}
use Rattle.base.proofs.Lists.{length_tab}
use Rattle.pair_counts.specs.Pairs.{P}
use Rattle.pair_counts.proofs.Pairs.{P_zero, P_one, P_suc}
use Rattle.poll_rules.specs.declared.Quartet.{Quartet}
use Rattle.poll_rules.specs.Records.{from, four, with_three, with_two, with_one, quartets_of, records_due}
use Rattle.poll_rules.specs.inner.Quartets.{Leaves, next_of}

-- one quartet of four leaves; of five, the last leaf goes fastest
quartets_of_four : quartets_of 4 ≡ four 0 1 2 3 ∷ []
unfolding quartets_of with_one with_two with_three from tab flat_map
quartets_of_four = refl

quartets_of_five :
    quartets_of 5 ≡ four 0 1 2 3 ∷ four 0 1 2 4 ∷ four 0 1 3 4 ∷ four 0 2 3 4 ∷ four 1 2 3 4 ∷ []
unfolding quartets_of with_one with_two with_three from tab flat_map
quartets_of_five = refl

-- i, i + 1, .., n − 1 begins with i
tab_first : {A : Type 0} (m : ℕ) (f : ℕ → A) → tab (suc m) f ≡ f 0 ∷ tab m (λ k. f (suc k))
unfolding tab
tab_first zero f = refl
tab_first (suc m) f = ap (λ z. z ++ (f (suc m) ∷ [])) (tab_first m f)

from_on : (i n : ℕ) → i < n → from i n ≡ i ∷ from (i + 1) n
unfolding from
from_on i n h =
    let e : n - i ≡ suc (n - (i + 1)) = omega arith in
    rw (e, tab_first, add-zero i) (ap (λ f. i ∷ tab (n - (i + 1)) f) (fun_ext (λ k. shift k)))
  where
    shift : (k : ℕ) → i + suc k ≡ i + 1 + k
    shift k = omega arith

from_end : (i n : ℕ) → n ≤ i → from i n ≡ []
unfolding from tab
from_end i n h = let e : n - i ≡ 0 = omega arith in rw e

-- parts one after the other, each for a number from i on
flat_on : (f : ℕ → List Quartet) (i n : ℕ) → i < n → flat_map f (from i n) ≡ f i ++ flat_map f (from (i + 1) n)
unfolding flat_map
flat_on f i n h = rw (from_on i n h)

flat_end : (f : ℕ → List Quartet) (i n : ℕ) → n ≤ i → flat_map f (from i n) ≡ []
unfolding flat_map
flat_end f i n h = rw (from_end i n h)

flat_none : (f : ℕ → List Quartet) (n m i : ℕ) → n ≤ m + i → ((j : ℕ) → i ≤ j → f j ≡ []) → flat_map f (from i n) ≡ []
flat_none f n zero i l h = flat_end f i n (omega arith)
flat_none f n (suc m) i l h = elim (dec_lt i n) [
  | yes k ↦ rw (flat_on f i n k, h i (omega arith), flat_none f n m (i + 1) (omega arith) (λ j g. h j (omega arith)))
  | no k ↦ flat_end f i n (omega arith)
]

-- What is left of the list: those with a, b, c whose fourth leaf is d or later; those with a, b whose third is c or
-- later; those with a whose second is b or later; those whose first is a or later; and those from q on.
left_three : (n a b c d : ℕ) → List Quartet
left_three n a b c d = map (four a b c) (from d n)

left_two : (n a b c : ℕ) → List Quartet
left_two n a b c = flat_map (with_three n a b) (from c n)

left_one : (n a b : ℕ) → List Quartet
left_one n a b = flat_map (with_two n a) (from b n)

left_all : (n a : ℕ) → List Quartet
left_all n a = flat_map (with_one n) (from a n)

pub quartets_from : ℕ → Quartet → List Quartet
quartets_from n q =
    left_three n q.a q.b q.c q.d
    ++ (left_two n q.a q.b (q.c + 1) ++ (left_one n q.a (q.b + 1) ++ left_all n (q.a + 1)))

three_on : (n a b c d : ℕ) → d < n → left_three n a b c d ≡ four a b c d ∷ left_three n a b c (d + 1)
unfolding left_three
three_on n a b c d h = rw (from_on d n h)

two_on : (n a b c : ℕ) → c < n → left_two n a b c ≡ left_three n a b c (c + 1) ++ left_two n a b (c + 1)
unfolding left_two left_three with_three
two_on n a b c h = flat_on (with_three n a b) c n h

one_on :
    (n a b : ℕ) → b + 1 < n
    → left_one n a b ≡ left_three n a b (b + 1) (b + 2) ++ (left_two n a b (b + 2) ++ left_one n a (b + 1))
one_on n a b h =
    part
    ∙ ap (λ z. z ++ left_one n a (b + 1)) (two_on n a b (b + 1) h)
    ∙ rw (add_assoc b 1 1) (append_assoc (left_three n a b (b + 1) (b + 2)) _ _)
  where
    part : left_one n a b ≡ left_two n a b (b + 1) ++ left_one n a (b + 1)
    part = unfold left_one left_two with_two in flat_on (with_two n a) b n (omega arith)

all_on : (n a : ℕ) → a + 2 < n → left_all n a ≡ quartets_from n (four a (a + 1) (a + 2) (a + 3))
unfolding quartets_from
all_on n a h =
    part
    ∙ ap (λ z. z ++ left_all n (a + 1)) (one_on n a (a + 1) (omega arith))
    ∙ rw (add_assoc a 1 1, add_assoc a 1 2, add_assoc a 2 1) (simp append_assoc)
  where
    part : left_all n a ≡ left_one n a (a + 1) ++ left_all n (a + 1)
    part = unfold left_all left_one with_one in flat_on (with_one n) a n (omega arith)

three_end : (n a b c d : ℕ) → n ≤ d → left_three n a b c d ≡ []
unfolding left_three
three_end n a b c d h = rw (from_end d n h)

two_end : (n a b c : ℕ) → n ≤ c + 1 → left_two n a b c ≡ []
unfolding left_two with_three
two_end n a b c h = flat_none (with_three n a b) n n c (omega arith) (λ j g. rw (from_end (j + 1) n (omega arith)))

one_end : (n a b : ℕ) → n ≤ b + 2 → left_one n a b ≡ []
unfolding left_one with_two
one_end n a b h =
    flat_none (with_two n a) n n b (omega arith) (λ j g. unfold left_two in two_end n a j (j + 1) (omega arith))

all_end : (n a : ℕ) → n ≤ a + 3 → left_all n a ≡ []
unfolding left_all with_one
all_end n a h =
    flat_none (with_one n) n n a (omega arith) (λ j g. unfold left_one in one_end n j (j + 1) (omega arith))

-- all are left at the first quartet
pub quartets_from_first : (n : ℕ) → 4 ≤ n → quartets_from n (four 0 1 2 3) ≡ quartets_of n
quartets_from_first n h = sym (all_on n 0 (omega arith)) ∙ (unfold left_all quartets_of in refl)

-- q is the first of those that are left at q
pub left_on :
    (n : ℕ) (q : Quartet) → q.d < n → quartets_from n q ≡ q ∷ quartets_from n (four q.a q.b q.c (q.d + 1))
unfolding quartets_from
left_on n q h = rw (three_on n q.a q.b q.c q.d h)

-- none is left with the same first three leaves, the same two, the same one: the leaf before goes on
next_third :
    (n a b c d : ℕ) → n ≤ d → c + 1 < n → quartets_from n (four a b c d) ≡ quartets_from n (four a b (c + 1) (c + 2))
unfolding quartets_from
next_third n a b c d hd h = rw (three_end n a b c d hd, two_on n a b (c + 1) h, add_assoc c 1 1) (simp append_assoc)

next_second :
    (n a b c d : ℕ) → n ≤ d → n ≤ c + 2 → b + 2 < n
    → quartets_from n (four a b c d) ≡ quartets_from n (four a (b + 1) (b + 2) (b + 3))
unfolding quartets_from
next_second n a b c d hd hc h =
    rw (
      three_end n a b c d hd,
      two_end n a b (c + 1) (omega arith),
      one_on n a (b + 1) (omega arith),
      add_assoc b 1 1,
      add_assoc b 1 2,
      add_assoc b 2 1,
    ) (simp append_assoc)

next_first :
    (n a b c d : ℕ) → n ≤ d → n ≤ c + 2 → n ≤ b + 3 → a + 3 < n
    → quartets_from n (four a b c d) ≡ quartets_from n (four (a + 1) (a + 2) (a + 3) (a + 4))
next_first n a b c d hd hc hb h =
    before ∙ all_on n (a + 1) (omega arith) ∙ rw (add_assoc a 1 1, add_assoc a 1 2, add_assoc a 1 3)
  where
    before : quartets_from n (four a b c d) ≡ left_all n (a + 1)
    before =
        unfold quartets_from in
        rw (three_end n a b c d hd, two_end n a b (c + 1) (omega arith), one_end n a (b + 1) (omega arith))

-- what holds of the next quartet, by which leaf goes on
pub next_by :
    (n : ℕ) (q : Quartet) (X : Quartet → Type 0) → (q.d + 1 < n → X (four q.a q.b q.c (q.d + 1)))
    → (n ≤ q.d + 1 → q.c + 2 < n → X (four q.a q.b (q.c + 1) (q.c + 2)))
    → (n ≤ q.d + 1 → n ≤ q.c + 2 → q.b + 3 < n → X (four q.a (q.b + 1) (q.b + 2) (q.b + 3)))
    → (n ≤ q.d + 1 → n ≤ q.c + 2 → n ≤ q.b + 3 → X (four (q.a + 1) (q.a + 2) (q.a + 3) (q.a + 4)))
    → X (next_of n q)
unfolding next_of
next_by n q X fourth third second first = elim (dec_lt (q.d + 1) n) [
  | yes h ↦ rw (lt-ltb (q.d + 1) n h) (fourth h)
  | no g ↦
      let hd : n ≤ q.d + 1 = omega arith in
      rw (le-ltb (q.d + 1) n hd) (elim (dec_lt (q.c + 2) n) [
        | yes h ↦ rw (lt-ltb (q.c + 2) n h) (third hd h)
        | no g ↦
            let hc : n ≤ q.c + 2 = omega arith in
            rw (le-ltb (q.c + 2) n hc) (elim (dec_lt (q.b + 3) n) [
              | yes h ↦ rw (lt-ltb (q.b + 3) n h) (second hd hc h)
              | no g ↦ (let hb : n ≤ q.b + 3 = omega arith in rw (le-ltb (q.b + 3) n hb) (first hd hc hb))
            ])
      ])
]

-- the next quartet is the next of those that are left
pub quartets_from_next :
    (n : ℕ) (q : Quartet) → Leaves n q.a q.b q.c q.d → quartets_from n q ≡ q ∷ quartets_from n (next_of n q)
quartets_from_next n q l =
    left_on n q l.dn
    ∙ ap (λ z. q ∷ z)
    (next_by n q (λ z. quartets_from n (four q.a q.b q.c (q.d + 1)) ≡ quartets_from n z) (λ h. refl)
    (λ hd h. next_third n q.a q.b q.c (q.d + 1) hd (omega arith))
    (λ hd hc h. next_second n q.a q.b q.c (q.d + 1) hd hc (omega arith))
    (λ hd hc hb. next_first n q.a q.b q.c (q.d + 1) hd hc hb (omega (arith, l.ab, l.bc, l.cd, l.dn))))

-- the next quartet has four leaves, or none is left
pub next_leaves :
    (n : ℕ) (q : Quartet) → Leaves n q.a q.b q.c q.d
    → Leaves n (next_of n q).a (next_of n q).b (next_of n q).c (next_of n q).d ⊎
    (quartets_from n (next_of n q) ≡ [])
next_leaves n q l =
    next_by n q (λ z. Leaves n z.a z.b z.c z.d ⊎ (quartets_from n z ≡ []))
    (λ h. inl (record { ab = l.ab; bc = l.bc; cd = omega (arith, l.cd); dn = h }))
    (λ hd h. inl (record { ab = l.ab; bc = omega (arith, l.bc); cd = omega arith; dn = h }))
    (λ hd hc h. inl (record { ab = omega (arith, l.ab); bc = omega arith; cd = omega arith; dn = h }))
    (λ hd hc hb. elim (dec_lt (q.a + 4) n) [
      | yes h ↦ inl (record { ab = omega arith; bc = omega arith; cd = omega arith; dn = h })
      | no g ↦ inr (ended (omega arith))
    ])
  where
    ended : n ≤ q.a + 4 → quartets_from n (four (q.a + 1) (q.a + 2) (q.a + 3) (q.a + 4)) ≡ []
    ended h =
        unfold quartets_from in
        rw (
          three_end n (q.a + 1) (q.a + 2) (q.a + 3) (q.a + 4) h,
          two_end n (q.a + 1) (q.a + 2) (q.a + 3 + 1) (omega arith),
          one_end n (q.a + 1) (q.a + 2 + 1) (omega arith),
          all_end n (q.a + 1 + 1) (omega arith),
        )

-- How many: of m leaves P(m) pairs, and so on by addition.
choose_three : ℕ → ℕ
choose_three zero = 0
choose_three (suc m) = choose_three m + P m

choose_four : ℕ → ℕ
choose_four zero = 0
choose_four (suc m) = choose_four m + choose_three m

-- a part for each number from i on: f (n − i) long, where f grows by the length of a part
length_parts :
    (f h : ℕ → ℕ) (g : ℕ → List Quartet) (n : ℕ) → f 0 ≡ 0 → ((m : ℕ) → f (suc m) ≡ f m + h m)
    → ((i : ℕ) → length (g i) ≡ h (n - (i + 1))) → (m i : ℕ) → n ≤ m + i → length (flat_map g (from i n)) ≡ f (n - i)
length_parts f h g n z s e zero i l =
    let none : n - i ≡ 0 = omega arith in
    rw (flat_end g i n (omega arith), none, z)
length_parts f h g n z s e (suc m) i l = elim (dec_lt i n) [
  | yes k ↦
      let more : n - i ≡ suc (n - (i + 1)) = omega arith in
      let rest = length_parts f h g n z s e m (i + 1) (omega arith) in
      rw (flat_on g i n k, length-append, e i, rest, more, s (n - (i + 1))) (omega arith)
  | no k ↦ (let none : n - i ≡ 0 = omega arith in rw (flat_end g i n (omega arith), none, z))
]

length_three : (n a b c : ℕ) → length (with_three n a b c) ≡ n - (c + 1)
unfolding with_three from
length_three n a b c = length-map (from (c + 1) n) (four a b c) ∙ length_tab (n - (c + 1)) (λ k. c + 1 + k)

length_two : (n a b : ℕ) → length (with_two n a b) ≡ P (n - (b + 1))
unfolding with_two
length_two n a b =
    length_parts P (λ m. m) (with_three n a b) n P_zero P_suc (length_three n a b) n (b + 1) (omega arith)

length_one : (n a : ℕ) → length (with_one n a) ≡ choose_three (n - (a + 1))
unfolding with_one choose_three
length_one n a =
    length_parts choose_three P (with_two n a) n refl (λ m. refl) (length_two n a) n (a + 1) (omega arith)

length_all : (n : ℕ) → length (quartets_of n) ≡ choose_four n
unfolding quartets_of choose_four
length_all n = length_parts choose_four choose_three (with_one n) n refl (λ m. refl) (length_one n) n 0 (omega arith)
    ∙ ap choose_four (sub-zero n)

twice_pairs : (m : ℕ) → 2 * P (suc m) ≡ suc m * m
twice_pairs zero = rw P_one
twice_pairs (suc m) = rw (P_suc (suc m)) (omega (arith, twice_pairs m))

six_three : (m : ℕ) → 6 * choose_three (suc (suc m)) ≡ suc (suc m) * suc m * m
unfolding choose_three
six_three zero = rw (P_zero, P_one)
six_three (suc m) = omega (arith, six_three m, twice_pairs (suc m))

first_last : (a b c d : ℕ) → a * b * c * d ≡ b * c * d * a
first_last a b c d = rw (mul_assoc a b c, mul_assoc a (b * c) d) (mul_comm a (b * c * d))

four_four : (m : ℕ) → 24 * choose_four (suc (suc (suc m))) ≡ suc (suc (suc m)) * suc (suc m) * suc m * m
unfolding choose_four
four_four zero = unfold choose_three in rw (P_zero, P_one)
four_four (suc m) =
    rw (first_last (suc (suc (suc (suc m)))) (suc (suc (suc m))) (suc (suc m)) (suc m))
    (more (suc (suc (suc m)) * suc (suc m) * suc m) m _ _ (four_four m) (six_three (suc m)))
  where
    more : (x m f t : ℕ) → 24 * f ≡ x * m → 6 * t ≡ x → 24 * (f + t) ≡ x * suc (suc (suc (suc m)))
    more x m f t p q = omega (arith, p, q)

-- n(n − 1)(n − 2)(n − 3)/24 quartets
pub quartets_count : (n : ℕ) → length (quartets_of n) ≡ records_due n
unfolding records_due choose_four choose_three P
quartets_count zero = length_all 0
quartets_count (suc zero) = length_all 1
quartets_count (suc (suc zero)) = length_all 2
quartets_count (suc (suc (suc m))) =
    let one : suc (suc (suc m)) - 1 ≡ suc (suc m) = omega arith in
    let two : suc (suc (suc m)) - 2 ≡ suc m = omega arith in
    let three : suc (suc (suc m)) - 3 ≡ m = omega arith in
    length_all (suc (suc (suc m))) ∙ rw (one, two, three) (omega (arith, four_four m))
