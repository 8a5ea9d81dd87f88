-- The ends and the interface signals of a domain, one entry of a table after another.
use Rattle.std.proofs.Common.{◌≡◌, ℕ, zero, suc, ◌≢◌, ◌+◌, ◌<◌, ◌≤◌, Bool, true, false, cond, List, [], ◌∷◌, ◌++◌, length, get_or, drop, refl, sym, ap, ◌∙◌, subst, arith, append_assoc, append-nil, add-one, drop-cons}
use Rattle.std.proofs.Math.ListN.{drop_of_length-le}
use Rattle.std.specs.Prelude.{◌==◌}
use Rattle.std.proofs.lemmas.Bool.{eq-eqb, ne_eqb, cond-true, cond-false}
use Rattle.std.specs.List.{range_with_len}
use Rattle.kernel_terms.specs.declared.tables.ChannelInfo.{ChannelInfo}
use Rattle.kernel_terms.specs.TableEntries.{numbers_where}
use Rattle.kernel_terms.proofs.SystemLimits.{numbers_count}
use Rattle.cell_core.specs.declared.moves.Side.TheVariants.{Sender, Receiver}
use Rattle.domain_core.specs.declared.step.ends_of.EndOf.{EndOf}
use Rattle.domain_core.specs.definitions.step.Domains.{ends_from}
use Rattle.std.specs.Prelude.{replicate, Vec}
use Rattle.std.specs.Global.{Global}
use Rattle.std.proofs.lemmas.List.{replicate-append-replicate, map-append}
use Rattle.domain_core.specs.declared.step.ends_of.EndJoin.{EndJoin}
use Rattle.domain_core.specs.step.JoinLists.{joins_in}

-- the list so far and the ends of the rest
pub record EndsSoFar (d : ℕ) (infos : List ChannelInfo) (at : ℕ) (found : List EndOf) : Type 0 where
  pub all : found ++ ends_from d at (drop at infos) ≡ ends_from d 0 infos

pub record NumbersSoFar {X : Type 0} (is : X → Bool) (xs : List X) (at : ℕ) (found : List ℕ) : Type 0 where
  pub all : found ++ numbers_where is at (drop at xs) ≡ numbers_where is 0 xs

joined : {X : Type 0} (found es F G W : List X) → found ++ F ≡ W → F ≡ es ++ G → (found ++ es) ++ G ≡ W
joined found es F G W before is = append_assoc found es G ∙ ap (λ l. found ++ l) (sym is) ∙ before

next_entry : {X : Type 0} (xs : List X) (at : ℕ) (x : X) → at < length xs → x ≡ get_or xs at x → drop at xs ≡ x ∷ drop (suc at) xs
next_entry xs at x less here = drop-cons xs at x less ∙ ap (λ y. y ∷ drop (suc at) xs) (sym here)

module _ (d : ℕ) (infos : List ChannelInfo) (at : ℕ) (found : List EndOf) (x : ChannelInfo) (less : at < length infos) (here : x ≡ get_or infos at x) (before : EndsSoFar d infos at found) where
  ends_at : ends_from d at (drop at infos) ≡ ends_from d at (x ∷ drop (suc at) infos)
  ends_at = ap (ends_from d at) (next_entry infos at x less here)

  to_next : (es : List EndOf) → ends_from d at (x ∷ drop (suc at) infos) ≡ es ++ ends_from d (suc at) (drop (suc at) infos) → EndsSoFar d infos (at + 1) (found ++ es)
  to_next es is = subst (λ n. EndsSoFar d infos n (found ++ es)) (sym (add-one at))
      (record { all = joined found es (ends_from d at (drop at infos)) (ends_from d (suc at) (drop (suc at) infos)) (ends_from d 0 infos) before.all (ends_at ∙ is) })

  pub sends_more : x.sender ≡ d → EndsSoFar d infos (at + 1) (found ++ record { channel = at; side = Sender } ∷ [])
  sends_more is =
      to_next (record { channel = at; side = Sender } ∷ [])
      (cond-true (x.sender == d) (record { channel = at; side = Sender } ∷ ends_from d (suc at) (drop (suc at) infos)) _ (eq-eqb x.sender d is))

  pub receives_more : x.sender ≢ d → x.receiver ≡ d → EndsSoFar d infos (at + 1) (found ++ record { channel = at; side = Receiver } ∷ [])
  receives_more isnt is =
      to_next (record { channel = at; side = Receiver } ∷ [])
      (cond-false (x.sender == d) _ _ (ne_eqb x.sender d isnt)
      ∙ cond-true (x.receiver == d) (record { channel = at; side = Receiver } ∷ ends_from d (suc at) (drop (suc at) infos)) _ (eq-eqb x.receiver d is))

  pub none_more : x.sender ≢ d → x.receiver ≢ d → EndsSoFar d infos (at + 1) found
  none_more isnt nor =
      subst (λ l. EndsSoFar d infos (at + 1) l) (append-nil found)
      (to_next [] (cond-false (x.sender == d) _ _ (ne_eqb x.sender d isnt) ∙ cond-false (x.receiver == d) _ _ (ne_eqb x.receiver d nor)))

module _ {X : Type 0} (is : X → Bool) (xs : List X) (at : ℕ) (found : List ℕ) (x : X) (less : at < length xs) (here : x ≡ get_or xs at x) (before : NumbersSoFar is xs at found) where
  number_next : (es : List ℕ) → numbers_where is at (x ∷ drop (suc at) xs) ≡ es ++ numbers_where is (suc at) (drop (suc at) xs) → NumbersSoFar is xs (at + 1) (found ++ es)
  number_next es e = subst (λ n. NumbersSoFar is xs n (found ++ es)) (sym (add-one at))
      (record { all = joined found es (numbers_where is at (drop at xs)) (numbers_where is (suc at) (drop (suc at) xs)) (numbers_where is 0 xs) before.all (ap (numbers_where is at) (next_entry xs at x less here) ∙ e) })

  pub number_more : is x ≡ true → NumbersSoFar is xs (at + 1) (found ++ at ∷ [])
  number_more yes_is = number_next (at ∷ []) (cond-true (is x) (at ∷ numbers_where is (suc at) (drop (suc at) xs)) _ yes_is)

  pub number_none : is x ≡ false → NumbersSoFar is xs (at + 1) found
  number_none no_is = subst (λ l. NumbersSoFar is xs (at + 1) l) (append-nil found) (number_next [] (cond-false (is x) _ (numbers_where is (suc at) (drop (suc at) xs)) no_is))

pub ends_first : (d : ℕ) (infos : List ChannelInfo) → EndsSoFar d infos 0 []
ends_first d infos = record { all = refl }

pub numbers_first : {X : Type 0} (is : X → Bool) (xs : List X) → NumbersSoFar is xs 0 []
numbers_first is xs = record { all = refl }

pub ends_done : (d : ℕ) (infos : List ChannelInfo) (at : ℕ) (found : List EndOf) → length infos ≤ at → EndsSoFar d infos at found → found ≡ ends_from d 0 infos
ends_done d infos at found past before = sym (append-nil found) ∙ ap (λ l. found ++ ends_from d at l) (sym (drop_of_length-le infos past)) ∙ before.all

pub numbers_done : {X : Type 0} (is : X → Bool) (xs : List X) (at : ℕ) (found : List ℕ) → length xs ≤ at → NumbersSoFar is xs at found → found ≡ numbers_where is 0 xs
numbers_done is xs at found past before = sym (append-nil found) ∙ ap (λ l. found ++ numbers_where is at l) (sym (drop_of_length-le xs past)) ∙ before.all

pub numbers_few : {X : Type 0} (is : X → Bool) (n : ℕ) (xs : List X) → length (numbers_where is n xs) ≤ length xs
numbers_few is n [] = omega arith
numbers_few is n (x ∷ xs) = few (is x) (numbers_few is (suc n) xs)
  where
    few : (t : Bool) → length (numbers_where is (suc n) xs) ≤ length xs → length (cond t (n ∷ numbers_where is (suc n) xs) (numbers_where is (suc n) xs)) ≤ suc (length xs)
    few true rest = omega (arith, rest)
    few false rest = omega (arith, rest)

pub ends_few : (d n : ℕ) (infos : List ChannelInfo) → length (ends_from d n infos) ≤ length infos
ends_few d n [] = omega arith
ends_few d n (info ∷ infos) = few (info.sender == d) (info.receiver == d) (ends_few d (suc n) infos)
  where
    few : (s t : Bool) → length (ends_from d (suc n) infos) ≤ length infos →
        length (cond s (record { channel = n; side = Sender } ∷ ends_from d (suc n) infos) (cond t (record { channel = n; side = Receiver } ∷ ends_from d (suc n) infos) (ends_from d (suc n) infos))) ≤ suc (length infos)
    few true t rest = omega (arith, rest)
    few false true rest = omega (arith, rest)
    few false false rest = omega (arith, rest)

-- an empty list more
pub lists_push : (lists : List (Vec EndJoin Global)) (n : ℕ) (v : Vec EndJoin Global) → joins_in lists ≡ replicate n [] → v.items ≡ [] → joins_in (lists ++ v ∷ []) ≡ replicate (n + 1) []
lists_push lists n v before empty =
    map-append (λ (u : Vec EndJoin Global). u.items) lists (v ∷ []) ∙ ap (λ l. l ++ v.items ∷ []) before ∙ ap (λ i. replicate n [] ++ i ∷ []) empty ∙ replicate-append-replicate n 1 []

pub ruleset list_steps = (sends_more, receives_more, none_more, number_more, number_none, ends_first, numbers_first, ends_done, ends_few, numbers_done, numbers_few, lists_push)

pub ruleset counting = (numbers_count, numbers_few)

-- a number more
pub next_number : (first n : ℕ) (l : List ℕ) → l ≡ range_with_len first n → l ++ (first + n) ∷ [] ≡ range_with_len first (n + 1)
next_number first n l is = ap (λ k. k ++ (first + n) ∷ []) is ∙ grows first n
  where
    grows : (a n : ℕ) → range_with_len a n ++ (a + n) ∷ [] ≡ range_with_len a (n + 1)
    grows a zero = ap (λ k. k ∷ []) (omega arith)
    grows a (suc n) =
        ap (λ k. a ∷ (range_with_len (a + 1) n ++ k ∷ [])) (omega arith) ∙ ap (λ l. a ∷ l) (grows (a + 1) n ∙ ap (range_with_len (a + 1)) (add-one n))
        ∙ ap (range_with_len a) (sym (add-one (suc n)))

pub ruleset range_more = (next_number)
