-- One count is raised, and the others stay.
use Rattle.std.proofs.Common.{◌≡◌, ◌≢◌, ◌⊎◌, inl, inr, ℕ, zero, suc, ◌+◌, ◌-◌, ◌^◌, min, ◌<◌, ◌≤◌, Bool, true, false, not, nat_lt, cond, List, [], ◌∷◌, length, get_or, map, refl, sym, ap, ◌∙◌, subst, arith, length-set, get_or-set_same}
use Rattle.std.proofs.Math.ListN.{set}
use Rattle.std.proofs.Math.Seq.{map-set_same}
use Rattle.std.proofs.lemmas.Bool.Decides.{nat_tests}
use Rattle.std.proofs.lemmas.List.{map-set, get_or-map, length-map}
use Rattle.std.proofs.lemmas.List.Quantifiers.{position-Some}
use Rattle.std.proofs.lemmas.List.Sums.{prefix_len_passes}
use Rattle.std.proofs.lemmas.Slice.Eq.{bytes_eq-Decides}
use Rattle.std.specs.List.{position_or_len}
use Rattle.std.specs.Prelude.{Some, None, position}
use Rattle.std.specs.Str.{bytes_eq}
use Rattle.sj_io.specs.definitions.Files.{IsKnown}
use Rattle.sj_io.specs.definitions.Counts.{count_of}
use Rattle.sj_io.specs.Raised.{IsRaised, Raises}

bool_cases : (b : Bool) → (b ≡ true) ⊎ (b ≡ false)
bool_cases true = inl refl
bool_cases false = inr refl

pub other_bytes : (xs ys : List ℕ) → xs ≢ ys → bytes_eq xs ys ≡ false
other_bytes xs ys ne = elim (bool_cases (bytes_eq xs ys)) [
  | inl h ↦ absurd (ne ((bytes_eq-Decides xs ys).0 h))
  | inr h ↦ h
]

cond_le : (b : Bool) (x y z w : ℕ) → x ≤ z → y ≤ w → cond b x y ≤ cond b z w
cond_le true x y z w h k = h
cond_le false x y z w h k = k

others_rise : (ns : List (List ℕ)) (cs : List ℕ) (o p : ℕ) (name : List ℕ) → o ≤ p → count_of ns cs o name ≤ count_of ns cs p name
others_rise [] cs o p name h = h
others_rise (n ∷ ns) [] o p name h = h
others_rise (n ∷ ns) (c ∷ cs) o p name h = cond_le (bytes_eq n name) c _ c _ (omega arith) (others_rise ns cs o p name h)

set_rises : (ns : List (List ℕ)) (cs : List ℕ) (o i c : ℕ) (name : List ℕ) → get_or cs i 0 ≤ c → count_of ns cs o name ≤ count_of ns (set cs i c) o name
set_rises [] cs o i c name h = omega arith
set_rises (n ∷ ns) [] o zero c name h = omega arith
set_rises (n ∷ ns) [] o (suc i) c name h = omega arith
set_rises (n ∷ ns) (x ∷ cs) o zero c name h = cond_le (bytes_eq n name) x _ c _ h (omega arith)
set_rises (n ∷ ns) (x ∷ cs) o (suc i) c name h = cond_le (bytes_eq n name) x _ x _ (omega arith) (set_rises ns cs o i c name h)

known_stays : (ns : List (List ℕ)) (cs : List ℕ) (o p : ℕ) (name : List ℕ) → length cs ≡ length ns → IsKnown ns name → count_of ns cs p name ≡ count_of ns cs o name
known_stays [] cs o p name len known = absurd known
known_stays (n ∷ ns) [] o p name len known = absurd (omega arith)
known_stays (n ∷ ns) (c ∷ cs) o p name len known = elim known [
  | inl e ↦ (let hit : bytes_eq n name ≡ true = (bytes_eq-Decides n name).1 (sym e) in ap (λ b. cond b c (count_of ns cs p name)) hit ∙ sym (ap (λ b. cond b c (count_of ns cs o name)) hit))
  | inr k ↦ ap (λ v. cond (bytes_eq n name) c v) (known_stays ns cs o p name (omega arith) k)
]

set_apart : (ns : List (List ℕ)) (cs : List ℕ) (o i c : ℕ) (name other : List ℕ) → i < length ns → get_or ns i name ≡ name → other ≢ name → count_of ns (set cs i c) o other ≡ count_of ns cs o other
set_apart [] cs o i c name other lt is ne = refl
set_apart (n ∷ ns) [] o zero c name other lt is ne = refl
set_apart (n ∷ ns) [] o (suc i) c name other lt is ne = refl
set_apart (n ∷ ns) (x ∷ cs) o zero c name other lt is ne =
    let miss : bytes_eq n other ≡ false = other_bytes n other (λ e. ne (sym e ∙ is)) in
    ap (λ b. cond b c (count_of ns cs o other)) miss ∙ sym (ap (λ b. cond b x (count_of ns cs o other)) miss)
set_apart (n ∷ ns) (x ∷ cs) o (suc i) c name other lt is ne = ap (λ v. cond (bytes_eq n other) x v) (set_apart ns cs o i c name other (omega arith) is ne)

-- the place is the first of this name
pub record IsFirst (ns : List (List ℕ)) (name : List ℕ) (i : ℕ) : Type 0 where
  pub within : i < length ns
  pub is : get_or ns i name ≡ name
  pub before : (k : ℕ) → k < i → bytes_eq (get_or ns k name) name ≡ false

pub record IsAbsent (ns : List (List ℕ)) (name : List ℕ) : Type 0 where
  pub all : (k : ℕ) → k < length ns → bytes_eq (get_or ns k name) name ≡ false

tail_first : (n : List ℕ) (ns : List (List ℕ)) (name : List ℕ) (i : ℕ) → IsFirst (n ∷ ns) name (suc i) → IsFirst ns name i
tail_first n ns name i h = record { within = omega (arith, h.within); is = h.is; before = λ k lt. h.before (suc k) (omega arith) }

count_first : (ns : List (List ℕ)) (cs : List ℕ) (o i : ℕ) (name : List ℕ) → length cs ≡ length ns → IsFirst ns name i → count_of ns cs o name ≡ get_or cs i 0
count_first [] cs o i name len h = absurd (omega (arith, h.within))
count_first (n ∷ ns) [] o i name len h = absurd (omega arith)
count_first (n ∷ ns) (c ∷ cs) o zero name len h = ap (λ b. cond b c (count_of ns cs o name)) ((bytes_eq-Decides n name).1 h.is)
count_first (n ∷ ns) (c ∷ cs) o (suc i) name len h = ap (λ b. cond b c (count_of ns cs o name)) (h.before 0 (omega arith)) ∙ count_first ns cs o i name (omega arith) (tail_first n ns name i h)

count_absent : (ns : List (List ℕ)) (cs : List ℕ) (o : ℕ) (name : List ℕ) → IsAbsent ns name → count_of ns cs o name ≡ o
count_absent [] cs o name h = refl
count_absent (n ∷ ns) [] o name h = refl
count_absent (n ∷ ns) (c ∷ cs) o name h =
    ap (λ b. cond b c (count_of ns cs o name)) (h.all 0 (omega arith)) ∙ count_absent ns cs o name (record { all = λ k lt. h.all (suc k) (omega arith) })

pub not_known : (ns : List (List ℕ)) (name : List ℕ) → IsAbsent ns name → IsKnown ns name → ⊥
not_known [] name h k = k
not_known (n ∷ ns) name h k = elim k [
  | inl e ↦ (let hit : bytes_eq n name ≡ true = (bytes_eq-Decides n name).1 (sym e) in let miss : bytes_eq n name ≡ false = h.all 0 (omega arith) in cc)
  | inr r ↦ not_known ns name (record { all = λ k lt. h.all (suc k) (omega arith) }) r
]

-- the first entry of a name, and that there is none, as a search by name finds them
pub first_at : {A : Type 0} (name_of : A → List ℕ) (xs : List A) (name : List ℕ) (i : ℕ) → position (λ x. bytes_eq (name_of x) name) xs ≡ Some i → IsFirst (map name_of xs) name i
first_at name_of [] name i h = cc
first_at name_of (d ∷ ds) name i h =
    let xs = d ∷ ds in
    let p = position-Some (λ x. bytes_eq (name_of x) name) xs i d h in
    let named : (k : ℕ) → k < length xs → get_or (map name_of xs) k name ≡ name_of (get_or xs k d) = λ k lt. get_or-map name_of xs k d name lt in
    record {
      within = omega (arith, p.0, length-map xs name_of);
      is = named i p.0 ∙ (bytes_eq-Decides (name_of (get_or xs i d)) name).0 p.1;
      before = λ k lt. ap (λ n. bytes_eq n name) (named k (omega (arith, p.0))) ∙ p.2 k lt;
    }

past_end : (a n : ℕ) → cond (nat_lt a n) (Some a) None ≡ None → n ≤ a
past_end a n h = by_test (nat_lt a n) refl h where
  by_test : (b : Bool) → nat_lt a n ≡ b → cond b (Some a) None ≡ None → n ≤ a
  by_test true e g = cc
  by_test false e g = grind (arith, nat_tests)

not_true : (b : Bool) → not b ≡ true → b ≡ false
not_true true h = cc
not_true false h = refl

pub nowhere : {A : Type 0} (name_of : A → List ℕ) (xs : List A) (name : List ℕ) → position (λ x. bytes_eq (name_of x) name) xs ≡ None → IsAbsent (map name_of xs) name
nowhere name_of [] name h = record { all = λ k lt. absurd (omega arith) }
nowhere {A} name_of (x ∷ xs) name h =
    let past : length (x ∷ xs) ≤ position_or_len (λ y. bytes_eq (name_of y) name) (x ∷ xs) = past_end (position_or_len (λ y. bytes_eq (name_of y) name) (x ∷ xs)) (length (x ∷ xs)) h in
    let miss : (k : ℕ) → k < length (x ∷ xs) → bytes_eq (name_of (get_or (x ∷ xs) k x)) name ≡ false = λ k lt. not_true _ (prefix_len_passes (λ y. not (bytes_eq (name_of y) name)) (x ∷ xs) k x (omega arith)) in
    record { all = λ k lt. (let inside : k < length (x ∷ xs) = omega (arith, length-map (x ∷ xs) name_of) in ap (λ n. bytes_eq n name) (get_or-map name_of (x ∷ xs) k x name inside) ∙ miss k inside) }

-- the entry d at a place of a list, written with a count of one more
pub raised : {A : Type 0} (name_of : A → List ℕ) (count : A → ℕ) (xs : List A) (i : ℕ) (x d : A) → i < length xs → d ≡ get_or xs i d → name_of x ≡ name_of d → count d < 2 ^ 64 → count x ≡ min (count d + 1) (2 ^ 64 - 1) → IsRaised (map name_of xs) (map name_of (set xs i x)) (map count xs) (map count (set xs i x)) i
raised name_of count xs i x d lt is n fits c =
    let was : get_or (map count xs) i 0 ≡ count d = get_or-map count xs i d 0 lt ∙ ap count (sym is) in
    record {
      same = map-set_same name_of xs i x d (n ∙ ap name_of is);
      fits = omega arith;
      raised = map-set count xs i x ∙ ap (set (map count xs) i) (c ∙ ap (λ k. min (k + 1) (2 ^ 64 - 1)) (sym was));
    }

raises_known : (ns : List (List ℕ)) (cs cs' : List ℕ) (o i : ℕ) (name : List ℕ) → length cs ≡ length ns → IsFirst ns name i → get_or cs i 0 ≤ 2 ^ 64 - 1 → cs' ≡ set cs i (min (get_or cs i 0 + 1) (2 ^ 64 - 1)) → Raises ns (count_of ns cs o) (count_of ns cs' o) name
raises_known ns cs cs' o i name len h fits is =
    let c = min (get_or cs i 0 + 1) (2 ^ 64 - 1) in
    let size : length (set cs i c) ≡ length ns = length-set cs i c ∙ len in
    let was : count_of ns cs o name ≡ get_or cs i 0 = count_first ns cs o i name len h in
    let now : count_of ns (set cs i c) o name ≡ c = count_first ns (set cs i c) o i name size h ∙ get_or-set_same cs i c 0 (omega (arith, h.within)) in
    let go : Raises ns (count_of ns cs o) (count_of ns (set cs i c) o) name = record { later = λ other. set_rises ns cs o i c other (omega arith); apart = λ other a. set_apart ns cs o i c name other h.within h.is a.0; rose = omega arith } in
    subst (λ l. Raises ns (count_of ns cs o) (count_of ns l o) name) (sym is) go

raises_others : (ns : List (List ℕ)) (cs : List ℕ) (o p : ℕ) (name : List ℕ) → length cs ≡ length ns → IsAbsent ns name → o < 2 ^ 64 → p ≡ min (o + 1) (2 ^ 64 - 1) → Raises ns (count_of ns cs o) (count_of ns cs p) name
raises_others ns cs o p name len h fits is = record {
  later = λ other. others_rise ns cs o p other (omega arith);
  apart = λ other a. elim a.1 [
    | inl k ↦ absurd (not_known ns name h k)
    | inr k ↦ known_stays ns cs o p other len k
  ];
  rose = omega (arith, count_absent ns cs o name h, count_absent ns cs p name h);
}

same_size : {A : Type 0} (name_of : A → List ℕ) (count : A → ℕ) (xs : List A) → length (map count xs) ≡ length (map name_of xs)
same_size name_of count xs = length-map xs count ∙ sym (length-map xs name_of)

-- a failure of a name that a search finds at a place, and of one that it does not find
pub fails_at : {A : Type 0} (name_of : A → List ℕ) (count : A → ℕ) (seen xs ys : List A) (o i : ℕ) (name : List ℕ) → seen ≡ xs → Some i ≡ position (λ x. bytes_eq (name_of x) name) seen → IsRaised (map name_of xs) (map name_of ys) (map count xs) (map count ys) i → Raises (map name_of xs) (count_of (map name_of xs) (map count xs) o) (count_of (map name_of ys) (map count ys) o) name
fails_at name_of count seen xs ys o i name e p r =
    let at : position (λ x. bytes_eq (name_of x) name) xs ≡ Some i = ap (position (λ x. bytes_eq (name_of x) name)) (sym e) ∙ sym p in
    let go = raises_known (map name_of xs) (map count xs) (map count ys) o i name (same_size name_of count xs) (first_at name_of xs name i at) r.fits r.raised in
    subst (λ ns. Raises (map name_of xs) (count_of (map name_of xs) (map count xs) o) (count_of ns (map count ys) o) name) (sym r.same) go

pub fails_elsewhere : {A : Type 0} (name_of : A → List ℕ) (count : A → ℕ) (seen xs : List A) (o p : ℕ) (name : List ℕ) → seen ≡ xs → None ≡ position (λ x. bytes_eq (name_of x) name) seen → o < 2 ^ 64 → p ≡ min (o + 1) (2 ^ 64 - 1) → Raises (map name_of xs) (count_of (map name_of xs) (map count xs) o) (count_of (map name_of xs) (map count xs) p) name
fails_elsewhere name_of count seen xs o p name e h fits is =
    let at : position (λ x. bytes_eq (name_of x) name) xs ≡ None = ap (position (λ x. bytes_eq (name_of x) name)) (sym e) ∙ sym h in
    raises_others (map name_of xs) (map count xs) o p name (same_size name_of count xs) (nowhere name_of xs name at) fits is
