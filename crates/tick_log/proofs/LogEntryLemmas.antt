-- The entries of a log, from the stamps and the statuses that it keeps.
use Rattle.std.proofs.Common.{◌≡◌, ℕ, zero, suc, ℤ, Bool, get_or, Vec, Global, ◌+◌, ◌-◌, ◌*◌, ◌^◌, ◌≤◌, ◌<◌, List, [], ◌∷◌, ◌++◌, length, take, drop, refl, sym, ap, ◌∙◌, arith, vec_len, vec_capacity, Option, None, length-drop}
use Rattle.std.proofs.lemmas.List.{take-append-le, drop-append-le, take_all, nil_from_length, get_or-take, get_or-drop, get_or_read, drop-drop}
use Rattle.std.proofs.lemmas.Nat.{mul-add-lt}
use Rattle.kernel_terms.specs.Marks.{Mark}
use Rattle.tick_log.specs.definitions.Runs.{Entry, entry_at}
use Rattle.tick_log.specs.definitions.Containers.{LogState}
use Rattle.tick_log.specs.Logs.{entries_of, Keeps}

mul_more : (n k : ℕ) → n * suc k ≡ n + n * k
mul_more n k = grind arith

entries_length : (n : ℕ) (stamps : List ℕ) (statuses : List (Option ℤ)) → length (entries_of n stamps statuses) ≡ length stamps
entries_length n [] statuses = refl
entries_length n (s ∷ stamps) statuses = omega (arith, entries_length n stamps (drop n statuses))

entries_push : (n : ℕ) (stamps : List ℕ) (statuses : List (Option ℤ)) (s : ℕ) (more : List (Option ℤ)) → length statuses ≡ n * length stamps → length more ≡ n
    → entries_of n (stamps ++ s ∷ []) (statuses ++ more) ≡ entries_of n stamps statuses ++ record { stamp = s; statuses = more } ∷ []
entries_push n [] statuses s more all e =
    let gone : statuses ≡ [] = nil_from_length statuses (omega arith) in
    rw gone (ap (λ l. record { stamp = s; statuses = l } ∷ []) (take_all n more (omega arith)))
entries_push n (x ∷ stamps) statuses s more all e =
    let m = mul_more n (length stamps) in
    let le : n ≤ length statuses = omega (arith, all, m) in
    let rest : length (drop n statuses) ≡ n * length stamps = omega (arith, length-drop n statuses, all, m) in
    rw (take-append-le n statuses more le, drop-append-le n statuses more le) (ap (λ l. record { stamp = x; statuses = take n statuses } ∷ l) (entries_push n stamps (drop n statuses) s more rest e))

entry_is : (n : ℕ) (stamps : List ℕ) (statuses : List (Option ℤ)) (i : ℕ) → i < length stamps → entry_at (entries_of n stamps statuses) i ≡ record { stamp = get_or stamps i 0; statuses = take n (drop (n * i) statuses) }
entry_is n [] statuses i lt = absurd (omega arith)
entry_is n (s ∷ stamps) statuses zero lt = let z : n * 0 ≡ 0 = omega arith in rw z refl
entry_is n (s ∷ stamps) statuses (suc i) lt = rw (mul_more n i) (entry_is n stamps (drop n statuses) i (omega arith) ∙ ap (λ l. record { stamp = get_or stamps i 0; statuses = take n l }) (drop-drop (n * i) n statuses))

status_is : (n : ℕ) (stamps : List ℕ) (statuses : List (Option ℤ)) (i j : ℕ) → i < length stamps → j < n → get_or (entry_at (entries_of n stamps statuses) i).statuses j None ≡ get_or statuses (n * i + j) None
status_is n stamps statuses i j lt less =
    ap (λ e. get_or e.statuses j None) (entry_is n stamps statuses i lt) ∙ get_or-take n (drop (n * i) statuses) j None less ∙ get_or-drop (n * i) statuses j None

-- the place of a status is among those that are kept
pub status_within : (n ticks i j : ℕ) → i < ticks → j < n → n * i + j < n * ticks
status_within n ticks i j lt less = omega (arith, mul-add-lt i n j ticks lt less)

-- one more tick, in the room that there was
pub keeps_more : (stamps stamps' : Vec ℕ Global) (statuses statuses' : Vec (Option ℤ) Global) (n room : ℕ) (ended ended' : Bool) → Keeps stamps statuses n room ended → 1 ≤ room
    → vec_len stamps' ≡ vec_len stamps + 1 → vec_capacity stamps ≤ vec_capacity stamps' → vec_len statuses' ≡ vec_len statuses + n → vec_capacity statuses ≤ vec_capacity statuses' → Keeps stamps' statuses' n (room - 1) ended'
keeps_more stamps stamps' statuses statuses' n room ended ended' k some len wide len' wide' =
    let one : vec_len stamps + 1 ≡ suc (vec_len stamps) = omega arith in
    let more : n * vec_len stamps' ≡ n + n * vec_len stamps = ap (λ k. n * k) (len ∙ one) ∙ mul_more n (vec_len stamps) in
    let same : vec_len stamps' + (room - 1) ≡ vec_len stamps + room = omega arith in
    let places : n * (vec_len stamps' + (room - 1)) ≡ n * (vec_len stamps + room) = ap (λ k. n * k) same in
    record {
      all = omega (arith, more, len', k.all);
      ticks = omega (arith, k.ticks);
      places = omega (arith, places, k.places);
      fits = omega (arith, k.fits);
      last = λ _. omega arith;
    }

mul_sum : (n j k : ℕ) → n * (j + k) ≡ n * j + n * k
mul_sum n j k = grind arith

-- memory for so many ticks more
pub keeps_reserved : (stamps stamps' : Vec ℕ Global) (statuses statuses' : Vec (Option ℤ) Global) (n room ticks : ℕ) (ended : Bool) → Keeps stamps statuses n room ended → vec_len stamps' + ticks < 2 ^ 32
    → vec_len stamps' ≡ vec_len stamps → vec_len stamps' + ticks ≤ vec_capacity stamps' → vec_len statuses' ≡ vec_len statuses → vec_len statuses' + n * ticks ≤ vec_capacity statuses' → Keeps stamps' statuses' n ticks ended
keeps_reserved stamps stamps' statuses statuses' n room ticks ended k fits len wide len' wide' =
    let all : vec_len statuses' ≡ n * vec_len stamps' = len' ∙ k.all ∙ ap (λ k. n * k) (sym len) in
    record {
      all = all;
      ticks = wide;
      places = omega (arith, mul_sum n (vec_len stamps') ticks, all, wide');
      fits = fits;
      last = λ on. omega (arith, len, k.last on);
    }

-- what the entries say, by what is kept
pub kept_length : (n : ℕ) (stamps : Vec ℕ Global) (statuses : List (Option ℤ)) (entries : List Entry) → entries_of n stamps.items statuses ≡ entries → length entries ≡ vec_len stamps
kept_length n stamps statuses entries e = ap length (sym e) ∙ entries_length n stamps.items statuses ∙ sym stamps.ok.0

pub kept_stamp : (n : ℕ) (stamps : Vec ℕ Global) (statuses : List (Option ℤ)) (entries : List Entry) (i x : ℕ) → entries_of n stamps.items statuses ≡ entries → i < length entries → x ≡ get_or stamps.items i x → x ≡ (entry_at entries i).stamp
kept_stamp n stamps statuses entries i x e lt at =
    let less : i < length stamps.items = omega (arith, kept_length n stamps statuses entries e, stamps.ok.0) in
    get_or_read stamps.items i x less at 0 ∙ sym (ap (λ e. e.stamp) (entry_is n stamps.items statuses i less)) ∙ ap (λ l. (entry_at l i).stamp) e

pub kept_status : (n : ℕ) (stamps : Vec ℕ Global) (statuses : Vec (Option ℤ) Global) (entries : List Entry) (i j : ℕ) (x : Option ℤ) → entries_of n stamps.items statuses.items ≡ entries → vec_len statuses ≡ n * vec_len stamps
    → i < length entries → j < n → x ≡ get_or statuses.items (n * i + j) x → x ≡ get_or (entry_at entries i).statuses j None
kept_status n stamps statuses entries i j x e all lt less at =
    let len = kept_length n stamps statuses.items entries e in
    let within : i < length stamps.items = omega (arith, len, stamps.ok.0) in
    let place : n * i + j < length statuses.items = omega (arith, status_within n (vec_len stamps) i j (omega arith) less, all, statuses.ok.0) in
    get_or_read statuses.items (n * i + j) x place at None ∙ sym (status_is n stamps.items statuses.items i j within less) ∙ ap (λ l. get_or (entry_at l i).statuses j None) e

pub kept_push : (n s : ℕ) (stamps stamps' : Vec ℕ Global) (statuses statuses' : Vec (Option ℤ) Global) (more : List (Option ℤ)) (entries : List Entry) → entries_of n stamps.items statuses.items ≡ entries → vec_len statuses ≡ n * vec_len stamps → length more ≡ n
    → stamps'.items ≡ stamps.items ++ s ∷ [] → statuses'.items ≡ statuses.items ++ more → entries_of n stamps'.items statuses'.items ≡ entries ++ record { stamp = s; statuses = more } ∷ []
kept_push n s stamps stamps' statuses statuses' more entries e all len is is' =
    let kept : length statuses.items ≡ n * length stamps.items = sym statuses.ok.0 ∙ all ∙ ap (λ k. n * k) stamps.ok.0 in
    ap (λ l. entries_of n l statuses'.items) is ∙ ap (λ l. entries_of n (stamps.items ++ s ∷ []) l) is' ∙ entries_push n stamps.items statuses.items s more kept len ∙ ap (λ l. l ++ record { stamp = s; statuses = more } ∷ []) e

abbrev state : List Entry → Mark → ℕ → ℕ → LogState
state e m s r = record { entries = e; mark = m; signals = s; room = r }

pub same_state : {e e' : List Entry} {s s' r r' : ℕ} (m : Mark) → e ≡ e' → s ≡ s' → r ≡ r'
    → state e m s r ≡ state e' m s' r'
same_state m h i j = cc
