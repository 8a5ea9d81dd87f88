-- A word of turns, one turn after another.
use Rattle.std.proofs.Common.{◌≡◌, ◌≢◌, inl, inr, ◌⊎◌, ℕ, suc, ◌+◌, ◌-◌, ◌<◌, ◌≤◌, ◌*◌, Bool, true, false, ◌&&◌, nat_eq, nat_le, nat_lt, cond, List, [], ◌∷◌, ◌++◌, length, get_or, set, replicate, Some, None, arith, refl, sym, ap, ◌∙◌, subst, append_assoc}
use Rattle.std.proofs.lemmas.List.{length-set, get_or-replicate, get_or-set_same, get_or-set_other}
use Rattle.std.specs.Prelude.{codes, Option, MatchOption}
use Rattle.std.proofs.lemmas.Bool.Decides.{nat_tests}
use Rattle.kernel_terms.specs.Limits.{most_domains}
use Rattle.domain_core.specs.definitions.runs.Scheduled.{turns_of}
use Rattle.sj_main.specs.declared.commands.Turns.{Turns}
use Rattle.sj_main.specs.declared.commands.Turns.TheVariants.{Rounds, Each}
use Rattle.java_values.specs.Names.{is_digit}
use Rattle.sj_main.specs.definitions.Commands.{most_turns, number_from, whole_number, turn_text, turns_text, AreDomains, AreTurns, IsEach, IsRoundCount, IsTurns, IsOrder}
use Rattle.sj_main.proofs.Budgets.{turns_of-append}
use Rattle.sj_main.specs.CommandWords.{BeginsTwo, NoTwo, EndsTurn, BeginsTurn, NoTurn, NoList, IsLast, IsMore, HasList, NoFewTurns, IsTurnList, TurnsReach, CountedTo, NoEach, HasEach, NoRounds, NoTurns, HasTurns, AreFew}

-- the text of one turn

text_low : (t : ℕ) (after : List ℕ) → t < 10 → turn_text t ++ after ≡ (48 + t) ∷ after
text_low t after l = let e : nat_lt t 10 ≡ true = grind (arith, nat_tests) in ap (λ b. cond b ((48 + t) ∷ []) (49 ∷ (38 + t) ∷ []) ++ after) e

text_high : (t : ℕ) (after : List ℕ) → 10 ≤ t → turn_text t ++ after ≡ 49 ∷ (38 + t) ∷ after
text_high t after l = let e : nat_lt t 10 ≡ false = grind (arith, nat_tests) in ap (λ b. cond b ((48 + t) ∷ []) (49 ∷ (38 + t) ∷ []) ++ after) e

low_or_high : (t : ℕ) → (t < 10) ⊎ (10 ≤ t)
low_or_high t = by (nat_lt t 10) refl
  where
    by : (b : Bool) → nat_lt t 10 ≡ b → (t < 10) ⊎ (10 ≤ t)
    by true e = inl (grind (arith, nat_tests))
    by false e = inr (grind (arith, nat_tests))

heads : (a b : ℕ) (xs ys : List ℕ) → a ∷ xs ≡ b ∷ ys → (a ≡ b) × (xs ≡ ys)
heads a b xs ys h = (cc, cc)

no_digit : (b : ℕ) (xs after : List ℕ) → EndsTurn after → after ≡ b ∷ xs → b ≢ 44 → ⊥
no_digit b xs after (inl e) h n = let k = sym e ∙ h in cc
no_digit b xs after (inr e) h n = n (sym (heads 44 b e.0 xs (sym e.1 ∙ h)).0)

pub two_is : (word : List ℕ) (s : ℕ) (rest : List ℕ) (d : ℕ) → word ≡ 49 ∷ s ∷ rest → 48 ≤ s → s ≤ 53 → d ≡ s - 48 + 10 → BeginsTwo word d rest
two_is word s rest d h low high e = let k : s ≡ 38 + d = omega arith in record { is = h ∙ ap (λ x. 49 ∷ x ∷ rest) k; high = omega arith; below = omega arith }

pub two_not : (word : List ℕ) (a b : ℕ) (rest : List ℕ) → word ≡ a ∷ b ∷ rest → (a ≡ 49 → 48 ≤ b → b ≤ 53 → ⊥) → NoTwo word
two_not word a b rest h n = record { none = λ c xs e low high. (let k = heads a 49 (b ∷ rest) (c ∷ xs) (sym h ∙ e) in let m = heads b c rest xs k.1 in n k.0 (let z = m.0 in omega arith) (let z = m.0 in omega arith)) }

pub two_short : (word : List ℕ) → ((a b : ℕ) (rest : List ℕ) → word ≡ a ∷ b ∷ rest → ⊥) → NoTwo word
two_short word n = record { none = λ b rest e low high. n 49 b rest e }

pub ruleset two_steps = (two_is, two_not, two_short)

-- the first turn

high_only : (word : List ℕ) (d : ℕ) (rest : List ℕ) → BeginsTwo word d rest → (t : ℕ) (after : List ℕ) → (t < 10) ⊎ (10 ≤ t) → EndsTurn after → word ≡ turn_text t ++ after → (t ≡ d) × (after ≡ rest)
high_only word d rest b t after (inl l) ends h =
    let k = heads (48 + t) 49 after ((38 + d) ∷ rest) (sym (text_low t after l) ∙ sym h ∙ b.is) in
    absurd (no_digit (38 + d) rest after ends k.1 (let g = b.high in λ e. omega arith))
high_only word d rest b t after (inr l) ends h =
    let k = heads 49 49 ((38 + t) ∷ after) ((38 + d) ∷ rest) (sym (text_high t after l) ∙ sym h ∙ b.is) in
    let m = heads (38 + t) (38 + d) after rest k.1 in
    (let z = m.0 in omega arith, m.1)

pub first_two : (word : List ℕ) (d : ℕ) (rest : List ℕ) → BeginsTwo word d rest → BeginsTurn word d rest
first_two word d rest b = record {
  is = b.is ∙ sym (text_high d rest b.high);
  below = b.below;
  only = λ t after l ends h. high_only word d rest b t after (low_or_high t) ends h;
}

low_only : (word : List ℕ) (b : ℕ) (rest : List ℕ) → NoTwo word → word ≡ b ∷ rest → (t : ℕ) (after : List ℕ) → (t < 10) ⊎ (10 ≤ t) → t < most_domains → word ≡ turn_text t ++ after → (48 + t ≡ b) × (after ≡ rest)
low_only word b rest n e t after (inl l) below h = heads (48 + t) b after rest (sym (text_low t after l) ∙ sym h ∙ e)
low_only word b rest n e t after (inr l) below h = absurd (n.none (38 + t) after (h ∙ text_high t after l) (omega arith) (omega arith))

pub first_one : (word : List ℕ) (b : ℕ) (rest : List ℕ) (d : ℕ) → NoTwo word → word ≡ b ∷ rest → 48 ≤ b → b ≤ 57 → d ≡ b - 48 → BeginsTurn word d rest
first_one word b rest d n e low high h =
    let k : b ≡ 48 + d = omega arith in
    record {
      is = e ∙ ap (λ x. x ∷ rest) k ∙ sym (text_low d rest (omega arith));
      below = omega arith;
      only = λ t after l ends g. (let m = low_only word b rest n e t after (low_or_high t) l g in (let z = m.0 in omega arith, m.1));
    }

text_some : (t : ℕ) (after : List ℕ) → (t < 10) ⊎ (10 ≤ t) → turn_text t ++ after ≡ [] → ⊥
text_some t after (inl l) h = let k = sym (text_low t after l) ∙ h in cc
text_some t after (inr l) h = let k = sym (text_high t after l) ∙ h in cc

pub first_empty : (word : List ℕ) → word ≡ [] → NoTurn word
first_empty word e = record { none = λ t after l h. text_some t after (low_or_high t) (sym h ∙ e) }

pub first_other : (word : List ℕ) (b : ℕ) (rest : List ℕ) → NoTwo word → word ≡ b ∷ rest → (48 ≤ b → b ≤ 57 → ⊥) → NoTurn word
first_other word b rest n e o = record { none = λ t after l h. stop t after (low_or_high t) l h }
  where
    stop : (t : ℕ) (after : List ℕ) → (t < 10) ⊎ (10 ≤ t) → t < most_domains → word ≡ turn_text t ++ after → ⊥
    stop t after (inl g) l h = let k = (low_only word b rest n e t after (inl g) l h).0 in o (omega arith) (omega arith)
    stop t after (inr g) l h = n.none (38 + t) after (h ∙ text_high t after g) (omega arith) (omega arith)

pub ruleset first_steps = (first_two, first_one, first_empty, first_other)

-- a turn of a list

rest_of : ℕ → List ℕ → List ℕ
rest_of t [] = []
rest_of t (u ∷ ts) = 44 ∷ turns_text u ts

rest_ends : (t : ℕ) (ts : List ℕ) → EndsTurn (rest_of t ts)
unfolding rest_of
rest_ends t [] = inl refl
rest_ends t (u ∷ ts) = inr (turns_text u ts, refl)

append_none : (xs : List ℕ) → xs ≡ xs ++ []
append_none [] = refl
append_none (x ∷ xs) = ap (λ l. x ∷ l) (append_none xs)

text_of : (t : ℕ) (ts : List ℕ) → turns_text t ts ≡ turn_text t ++ rest_of t ts
unfolding rest_of
text_of t [] = append_none (turn_text t)
text_of t (u ∷ ts) = refl

pub list_none : (word : List ℕ) → NoTurn word → NoList word
list_none word n = record { none = λ t ts l h. n.none t (rest_of t ts) l (h ∙ text_of t ts) }

no_rest : (t : ℕ) (ts : List ℕ) → rest_of t ts ≡ [] → ts ≡ []
unfolding rest_of
no_rest t [] h = refl
no_rest t (u ∷ ts) h = cc

some_rest : (t b : ℕ) (ts after : List ℕ) → rest_of t ts ≡ b ∷ after → (b ≡ 44) × (u : ℕ) × (us : List ℕ) × (ts ≡ u ∷ us) × (after ≡ turns_text u us)
unfolding rest_of
some_rest t b [] after h = cc
some_rest t b (u ∷ ts) after h = let k = heads 44 b (turns_text u ts) after h in (sym k.0, u, ts, refl, sym k.1)

no_items : (xs : List ℕ) → nat_eq (length xs) 0 ≡ true → xs ≡ []
no_items [] h = refl
no_items (x ∷ xs) h = absurd (let e : length (x ∷ xs) ≡ 0 = grind (arith, nat_tests) in omega arith)

pub list_last : (word rest : List ℕ) (d : ℕ) → BeginsTurn word d rest → nat_eq (length rest) 0 ≡ true → IsLast word d
list_last word rest d b z =
    let e = no_items rest z in
    record {
      is = b.is ∙ ap (λ l. turn_text d ++ l) e ∙ sym (append_none (turn_text d));
      below = b.below;
      only = λ t ts l h. (let k = b.only t (rest_of t ts) l (rest_ends t ts) (h ∙ text_of t ts) in (k.0, no_rest t ts (k.1 ∙ e)));
    }

pub list_more : (word rest after : List ℕ) (d : ℕ) → BeginsTurn word d rest → rest ≡ 44 ∷ after → IsMore word d after
list_more word rest after d b e = record {
  is = b.is ∙ ap (λ l. turn_text d ++ l) e;
  below = b.below;
  only = λ t ts l h. (let k = b.only t (rest_of t ts) l (rest_ends t ts) (h ∙ text_of t ts) in let s = some_rest t 44 ts after (k.1 ∙ e) in (k.0, s.1, s.2, s.3, s.4));
}

listed_rest : (t : ℕ) (ts rest : List ℕ) → rest_of t ts ≡ rest → nat_eq (length rest) 0 ≡ false → (after : List ℕ) × (rest ≡ 44 ∷ after)
unfolding rest_of
listed_rest t [] [] h z = absurd (let e : true ≡ false = z in cc)
listed_rest t [] (x ∷ rest) h z = cc
listed_rest t (u ∷ ts) rest h z = (turns_text u ts, sym h)

pub list_other : (word rest : List ℕ) (d : ℕ) → BeginsTurn word d rest → nat_eq (length rest) 0 ≡ false → ((after : List ℕ) → rest ≢ 44 ∷ after) → NoList word
list_other word rest d b z n = record {
  none = λ t ts l h. (let k = b.only t (rest_of t ts) l (rest_ends t ts) (h ∙ text_of t ts) in let s = listed_rest t ts rest k.1 z in n s.0 s.1);
}

pub ruleset list_steps = (list_none, list_last, list_more, list_other)

-- a list of turns

pub turns_start : (word turns : List ℕ) → turns ≡ [] → TurnsReach word turns word
turns_start word turns e = rw e (record { there = λ t ts h. (t, ts, refl, h); back = λ u us a h. (u, us, refl, h); domains = tt })

domains_push : (ts : List ℕ) (d : ℕ) → AreDomains ts → d < most_domains → AreDomains (ts ++ d ∷ [])
domains_push [] d a l = (l, tt)
domains_push (t ∷ ts) d a l = (a.0, domains_push ts d a.1 l)

domains_later : (xs : List ℕ) (t : ℕ) (ts : List ℕ) → AreDomains (xs ++ t ∷ ts) → t < most_domains
domains_later [] t ts a = a.0
domains_later (x ∷ xs) t ts a = domains_later xs t ts a.1

turn_at : (word turns rest : List ℕ) (u t : ℕ) (us ts : List ℕ) → AreDomains (u ∷ us) → u ∷ us ≡ turns ++ t ∷ ts → t < most_domains
turn_at word turns rest u t us ts a e = let P : List ℕ → Type 0 = λ l. AreDomains l in domains_later turns t ts (subst P e a)

pub turns_more : (word rest after turns new : List ℕ) (d : ℕ) → TurnsReach word turns rest → IsMore rest d after → new ≡ turns ++ d ∷ [] → TurnsReach word new after
turns_more word rest after turns new d r m e = rw e (record {
  there = λ t ts h. (let k = r.there d (t ∷ ts) (m.is ∙ ap (λ l. turn_text d ++ 44 ∷ l) h) in (k.0, k.1, append_assoc turns (d ∷ []) (t ∷ ts) ∙ k.2, k.3));
  back = λ u us a h. (let k = r.back u us a h in let o = m.only k.0 k.1 (turn_at word turns rest u k.0 us k.1 a k.2) k.3 in (o.1, o.2, k.2 ∙ ap (λ x. turns ++ x ∷ k.1) o.0 ∙ ap (λ x. turns ++ d ∷ x) o.3 ∙ sym (append_assoc turns (d ∷ []) (o.1 ∷ o.2)), o.4));
  domains = domains_push turns d r.domains m.below;
})

pub turns_stop : (word rest turns : List ℕ) → TurnsReach word turns rest → NoList rest → HasList word → ⊥
turns_stop word rest turns r n h =
    let k = r.back h.first h.others h.domains h.is in
    n.none k.0 k.1 (turn_at word turns rest h.first k.0 h.others k.1 h.domains k.2) k.3

pub turns_last : (word rest turns new : List ℕ) (d : ℕ) → TurnsReach word turns rest → IsLast rest d → new ≡ turns ++ d ∷ [] → IsTurnList word new
turns_last word rest turns new d r l e =
    let k = r.there d [] l.is in
    rw e (record {
      first = k.0;
      others = k.1;
      list = k.2;
      is = k.3;
      domains = domains_push turns d r.domains l.below;
      only = λ u us a h. (let m = r.back u us a h in let o = l.only m.0 m.1 (turn_at word turns rest u m.0 us m.1 a m.2) m.3 in m.2 ∙ ap (λ x. turns ++ x ∷ m.1) o.0 ∙ ap (λ x. turns ++ d ∷ x) o.1);
    })

text_length : (t : ℕ) (after : List ℕ) → (t < 10) ⊎ (10 ≤ t) → length after < length (turn_text t ++ after)
text_length t after (inl l) = let k = ap length (text_low t after l) in omega arith
text_length t after (inr l) = let k = ap length (text_high t after l) in omega arith

pub list_shorter : (rest after : List ℕ) (d : ℕ) → IsMore rest d after → length after < length rest
list_shorter rest after d m = let a = ap length m.is in let b = text_length d (44 ∷ after) (low_or_high d) in omega arith

pub ruleset read_steps = (turns_start, turns_more, turns_stop, turns_last, list_shorter)

-- counting by domain

lt_of : (a b : ℕ) → nat_lt a b ≡ true → a < b
lt_of a b h = grind (arith, nat_tests)

same_of : (a b : ℕ) → nat_eq a b ≡ true → a ≡ b
same_of a b h = grind (arith, nat_tests)

apart_of : (a b : ℕ) → nat_eq a b ≡ false → b ≢ a
apart_of a b h e = let k : nat_eq a b ≡ true = grind (arith, nat_tests) in let z : true ≡ false = sym k ∙ h in cc

pub check_start : (word counts : List ℕ) → counts ≡ replicate most_domains 0 → CountedTo word word counts
check_start word counts e = record {
  turns = [];
  reach = turns_start word [] refl;
  size = ap length e;
  each = λ d l. ap (λ c. get_or c d 0) e ∙ get_or-replicate most_domains d 0 0 l;
  few = λ d l. (let z : get_or counts d 0 ≡ 0 = ap (λ c. get_or c d 0) e ∙ get_or-replicate most_domains d 0 0 l in omega arith);
}

counted_push : (d t : ℕ) (ts : List ℕ) (b : Bool) → nat_eq t d ≡ b → turns_of d (ts ++ t ∷ []) ≡ cond b (suc (turns_of d ts)) (turns_of d ts)
counted_push d t ts true e = turns_of-append d ts (t ∷ []) ∙ ap (λ c. turns_of d ts + cond c 1 0) e ∙ (let z : turns_of d ts + 1 ≡ suc (turns_of d ts) = omega arith in z)
counted_push d t ts false e = turns_of-append d ts (t ∷ []) ∙ ap (λ c. turns_of d ts + cond c 1 0) e ∙ (let z : turns_of d ts + 0 ≡ turns_of d ts = omega arith in z)

-- the counts once a turn of a domain has been counted
pub record IsRaised (counts new : List ℕ) (d : ℕ) : Type 0 where
  pub room : get_or counts d 0 < most_turns
  pub is : new ≡ set counts d (get_or counts d 0 + 1)

raised_each : (turns counts new : List ℕ) (t d : ℕ) (b : Bool) → length counts ≡ most_domains → t < most_domains → ((e : ℕ) → e < most_domains → get_or counts e 0 ≡ turns_of e turns) → IsRaised counts new t → nat_eq t d ≡ b → d < most_domains → get_or new d 0 ≡ turns_of d (turns ++ t ∷ [])
raised_each turns counts new t d true size l each r e m =
    let s = same_of t d e in
    let k : get_or new d 0 ≡ get_or counts t 0 + 1 = ap (λ c. get_or c d 0) r.is ∙ ap (λ x. get_or (set counts t (get_or counts t 0 + 1)) x 0) (sym s) ∙ get_or-set_same counts t (get_or counts t 0 + 1) 0 (omega arith) in
    let p = counted_push d t turns true e in
    let q : turns_of t turns ≡ turns_of d turns = ap (λ x. turns_of x turns) s in
    omega (arith, each t l)
raised_each turns counts new t d false size l each r e m =
    ap (λ c. get_or c d 0) r.is ∙ get_or-set_other counts t d (get_or counts t 0 + 1) 0 (apart_of t d e) ∙ each d m ∙ sym (counted_push d t turns false e)

raised_few : (counts new : List ℕ) (t d : ℕ) (b : Bool) → length counts ≡ most_domains → t < most_domains → ((e : ℕ) → e < most_domains → get_or counts e 0 ≤ most_turns) → IsRaised counts new t → nat_eq t d ≡ b → d < most_domains → get_or new d 0 ≤ most_turns
raised_few counts new t d true size l few r e m =
    let s = same_of t d e in
    let k : get_or new d 0 ≡ get_or counts t 0 + 1 = ap (λ c. get_or c d 0) r.is ∙ ap (λ x. get_or (set counts t (get_or counts t 0 + 1)) x 0) (sym s) ∙ get_or-set_same counts t (get_or counts t 0 + 1) 0 (omega arith) in
    omega (arith, r.room)
raised_few counts new t d false size l few r e m =
    let k : get_or new d 0 ≡ get_or counts d 0 = ap (λ c. get_or c d 0) r.is ∙ get_or-set_other counts t d (get_or counts t 0 + 1) 0 (apart_of t d e) in
    omega (arith, few d m)

pub check_more : (word rest after counts new : List ℕ) (d : ℕ) → CountedTo word rest counts → IsMore rest d after → IsRaised counts new d → CountedTo word after new
check_more word rest after counts new d c m r = record {
  turns = c.turns ++ d ∷ [];
  reach = turns_more word rest after c.turns (c.turns ++ d ∷ []) d c.reach m refl;
  size = ap length r.is ∙ length-set counts d (get_or counts d 0 + 1) ∙ c.size;
  each = λ e l. raised_each c.turns counts new d e (nat_eq d e) c.size m.below c.each r refl l;
  few = λ e l. raised_few counts new d e (nat_eq d e) c.size m.below c.few r refl l;
}

-- no domain past the last has a turn
count_none : (d : ℕ) (ts : List ℕ) → AreDomains ts → most_domains ≤ d → turns_of d ts ≡ 0
count_none d [] a h = refl
count_none d (t ∷ ts) a h =
    let l = a.0 in
    let e : nat_eq t d ≡ false = grind (arith, nat_tests) in
    ap (λ b. cond b (suc (turns_of d ts)) (turns_of d ts)) e ∙ count_none d ts a.1 h

few_all : (ts : List ℕ) → AreDomains ts → ((d : ℕ) → d < most_domains → turns_of d ts ≤ most_turns) → (d : ℕ) → turns_of d ts ≤ most_turns
few_all ts a f d = by (nat_lt d most_domains) refl
  where
    by : (b : Bool) → nat_lt d most_domains ≡ b → turns_of d ts ≤ most_turns
    by true h = f d (lt_of d most_domains h)
    by false h = let l : most_domains ≤ d = grind (arith, nat_tests) in let e = count_none d ts a l in omega arith

list_of : (word : List ℕ) (turns : List ℕ) → IsTurnList word turns → ((d : ℕ) → turns_of d turns ≤ most_turns) → HasList word
list_of word turns l few = record {
  first = l.first;
  others = l.others;
  is = l.is;
  domains = (let P : List ℕ → Type 0 = λ x. AreDomains x in subst P l.list l.domains);
  few = λ d. (let z = ap (turns_of d) l.list in omega (arith, few d));
}

check_last : (word rest counts new : List ℕ) (d : ℕ) → CountedTo word rest counts → IsLast rest d → IsRaised counts new d → HasList word
check_last word rest counts new d c l r =
    let all = c.turns ++ d ∷ [] in
    let list = turns_last word rest c.turns all d c.reach l refl in
    list_of word all list (few_all all list.domains (λ e m.
    let a = raised_each c.turns counts new d e (nat_eq d e) c.size l.below c.each r refl m in
    let b = raised_few counts new d e (nat_eq d e) c.size l.below c.few r refl m in
    omega arith))

pub check_stop : (word rest counts : List ℕ) → CountedTo word rest counts → NoList rest → NoFewTurns word
check_stop word rest counts c n = record { none = λ u us a few h. (let k = c.reach.back u us a h in n.none k.0 k.1 (turn_at word c.turns rest u k.0 us k.1 a k.2) k.3) }

too_many : (word : List ℕ) (turns : List ℕ) (u : ℕ) (us : List ℕ) (d : ℕ) (ts : List ℕ) → u ∷ us ≡ turns ++ d ∷ ts → turns_of d turns ≡ most_turns → turns_of d (u ∷ us) ≤ most_turns → ⊥
too_many word turns u us d ts e m few =
    let a = ap (turns_of d) e in
    let b = turns_of-append d turns (d ∷ ts) in
    let c : nat_eq d d ≡ true = grind (arith, nat_tests) in
    let f : turns_of d (d ∷ ts) ≡ suc (turns_of d ts) = ap (λ x. cond x (suc (turns_of d ts)) (turns_of d ts)) c in
    omega arith

many_more : (word rest after counts : List ℕ) (d : ℕ) → CountedTo word rest counts → IsMore rest d after → get_or counts d 0 ≡ most_turns → NoFewTurns word
many_more word rest after counts d c m e = record {
  none = λ u us a few h.
      (let k = c.reach.back u us a h in
      let o = m.only k.0 k.1 (turn_at word c.turns rest u k.0 us k.1 a k.2) k.3 in
      too_many word c.turns u us d k.1 (k.2 ∙ ap (λ x. c.turns ++ x ∷ k.1) o.0) (sym (c.each d m.below) ∙ e) (few d));
}

many_last : (word rest counts : List ℕ) (d : ℕ) → CountedTo word rest counts → IsLast rest d → get_or counts d 0 ≡ most_turns → NoFewTurns word
many_last word rest counts d c l e = record {
  none = λ u us a few h.
      (let k = c.reach.back u us a h in
      let o = l.only k.0 k.1 (turn_at word c.turns rest u k.0 us k.1 a k.2) k.3 in
      too_many word c.turns u us d k.1 (k.2 ∙ ap (λ x. c.turns ++ x ∷ k.1) o.0) (sym (c.each d l.below) ∙ e) (few d));
}

pub check_many : {A : Type 0} (now : A → List ℕ) (word rest counts : List ℕ) (d : ℕ) (next : Option A) → CountedTo word rest counts → MatchOption next (IsLast rest d) (λ after. IsMore rest d (now after)) → get_or counts d 0 ≡ most_turns → NoFewTurns word
check_many now word rest counts d None c l e = many_last word rest counts d c l e
check_many now word rest counts d (Some after) c m e = many_more word rest (now after) counts d c m e

pub check_end : (word rest counts : List ℕ) (d : ℕ) → CountedTo word rest counts → IsLast rest d → get_or counts d 0 ≢ most_turns → HasList word
check_end word rest counts d c l r =
    let below = l.below in
    let room : get_or counts d 0 < most_turns = omega (arith, c.few d below) in
    check_last word rest counts (set counts d (get_or counts d 0 + 1)) d c l (record { room = room; is = refl })

pub ruleset check_steps = (check_start, check_more, list_shorter)

-- turns one by one

pub each_none : (word turns : List ℕ) → word ≡ codes "-" → turns ≡ [] → IsEach word turns
each_none word turns h e = rw e (record { are = h; domains = tt; few = λ d. omega arith })

are_turns : (word turns : List ℕ) → (l : IsTurnList word turns) → AreTurns word turns
are_turns word turns l = let P : List ℕ → Type 0 = λ x. AreTurns word x in subst P (sym l.list) l.is

pub each_list : (word turns made : List ℕ) → HasList word → IsTurnList word turns → made ≡ turns → IsEach word made
each_list word turns made h l e = rw e (record {
  are = are_turns word turns l;
  domains = l.domains;
  few = λ d. (let z = ap (turns_of d) (l.only h.first h.others h.domains h.is) in omega (arith, h.few d));
})

pub no_each_list : (word : List ℕ) → word ≢ codes "-" → NoFewTurns word → NoEach word
no_each_list word d n = record { none = none }
  where
    none : (turns : List ℕ) → IsEach word turns → ⊥
    none [] e = d e.are
    none (t ∷ ts) e = n.none t ts e.domains e.few e.are

pub has_each : (word : List ℕ) → HasList word → HasEach word
has_each word h = record { turns = h.first ∷ h.others; are = record { are = h.is; domains = h.domains; few = h.few } }

pub ruleset each_steps = (each_none, each_list, no_each_list, has_each)

-- rounds

same_digits : (word a b : List ℕ) → word ≡ codes "rr:" ++ a → word ≡ codes "rr:" ++ b → a ≡ b
same_digits word a b g h = cc

pub rounds_are : (word digits : List ℕ) (n : ℕ) → word ≡ codes "rr:" ++ digits → whole_number most_turns digits ≡ Some n → IsRoundCount word n
rounds_are word digits n h e = record { digits = digits; is = h; number = e }

pub no_rounds : (word : List ℕ) → ((digits : List ℕ) → word ≡ codes "rr:" ++ digits → ⊥) → NoRounds word
no_rounds word n = record { none = λ k r. n r.digits r.is }

pub no_number : (word digits : List ℕ) → word ≡ codes "rr:" ++ digits → whole_number most_turns digits ≡ None → NoRounds word
no_number word digits h e = record { none = λ k r. (let s = ap (whole_number most_turns) (same_digits word digits r.digits h r.is) in let m = r.number in let z : None ≡ Some k = sym e ∙ s ∙ m in cc) }

pub ruleset round_steps = (rounds_are, no_rounds, no_number)

-- both kinds

pub turns_none : (word : List ℕ) → NoRounds word → NoEach word → NoTurns word
turns_none word r e = record { none = none }
  where
    none : (turns : Turns) → IsTurns word turns → ⊥
    none (Rounds n) h = r.none n h
    none (Each ts) h = e.none ts h

pub turns_rounds : (word : List ℕ) (n : ℕ) → IsRoundCount word n → IsTurns word (Rounds n)
turns_rounds word n h = h

pub turns_each : (word turns : List ℕ) → IsEach word turns → IsTurns word (Each turns)
turns_each word turns h = h

pub has_turns : (word : List ℕ) → HasEach word → HasTurns word
has_turns word h = record { turns = Each h.turns; are = h.are }

pub ruleset turn_steps = (turns_none, turns_rounds, turns_each, has_turns)

-- a command's turns are few

number_step : (limit n m : ℕ) (b : ℕ) (bs : List ℕ) (c : Bool) → c ≡ (is_digit b && nat_le (n * 10 + (b - 48)) limit) → cond c (number_from limit (n * 10 + (b - 48)) bs) None ≡ Some m
    → (n * 10 + (b - 48) ≤ limit → number_from limit (n * 10 + (b - 48)) bs ≡ Some m → m ≤ limit) → m ≤ limit
number_step limit n m b bs false e h k = cc
number_step limit n m b bs true e h k = k (le_of (n * 10 + (b - 48)) limit (both_right (is_digit b) (nat_le (n * 10 + (b - 48)) limit) (sym e))) h
  where
    both_right : (p q : Bool) → p && q ≡ true → q ≡ true
    both_right true q l = l
    both_right false q l = cc

    le_of : (x y : ℕ) → nat_le x y ≡ true → x ≤ y
    le_of x y l = grind (arith, nat_tests)

number_within : (limit n : ℕ) (w : List ℕ) (m : ℕ) → n ≤ limit → number_from limit n w ≡ Some m → m ≤ limit
number_within limit n [] m l h = let e : n ≡ m = cc in omega arith
number_within limit n (b ∷ bs) m l h = number_step limit n m b bs (is_digit b && nat_le (n * 10 + (b - 48)) limit) refl h (λ k e. number_within limit (n * 10 + (b - 48)) bs m k e)

whole_step : (limit b c m : ℕ) (rest : List ℕ) (z : Bool) → cond z None (number_from limit 0 (b ∷ c ∷ rest)) ≡ Some m → m ≤ limit
whole_step limit b c m rest true h = cc
whole_step limit b c m rest false h = number_within limit 0 (b ∷ c ∷ rest) m (omega arith) h

whole_within : (limit : ℕ) (w : List ℕ) (m : ℕ) → whole_number limit w ≡ Some m → m ≤ limit
whole_within limit [] m h = cc
whole_within limit (b ∷ []) m h = number_within limit 0 (b ∷ []) m (omega arith) h
whole_within limit (b ∷ c ∷ rest) m h = whole_step limit b c m rest (nat_eq b 48) h

turns_few : (word : List ℕ) (turns : Turns) → IsTurns word turns → AreFew turns
turns_few word (Rounds n) h = whole_within most_turns h.digits n h.number
turns_few word (Each ts) h = h.few

pub orders_few : (words : List (List ℕ)) (file : List ℕ) (turns : Turns) → IsOrder words file turns → AreFew turns
orders_few words file turns o = turns_few o.word turns o.takes

-- the turns of a word are the only ones

turn_once : (t u : ℕ) (a b : List ℕ) → (t < 10) ⊎ (10 ≤ t) → (u < 10) ⊎ (10 ≤ u) → EndsTurn a → EndsTurn b → turn_text t ++ a ≡ turn_text u ++ b → (t ≡ u) × (a ≡ b)
turn_once t u a b (inl l) (inl k) e f h = let m = heads (48 + t) (48 + u) a b (sym (text_low t a l) ∙ h ∙ text_low u b k) in (let z = m.0 in omega arith, m.1)
turn_once t u a b (inl l) (inr k) e f h =
    let m = heads (48 + t) 49 a ((38 + u) ∷ b) (sym (text_low t a l) ∙ h ∙ text_high u b k) in
    absurd (no_digit (38 + u) b a e m.1 (λ z. omega arith))
turn_once t u a b (inr l) (inl k) e f h =
    let m = heads 49 (48 + u) ((38 + t) ∷ a) b (sym (text_high t a l) ∙ h ∙ text_low u b k) in
    absurd (no_digit (38 + t) a b f (sym m.1) (λ z. omega arith))
turn_once t u a b (inr l) (inr k) e f h =
    let m = heads 49 49 ((38 + t) ∷ a) ((38 + u) ∷ b) (sym (text_high t a l) ∙ h ∙ text_high u b k) in
    let n = heads (38 + t) (38 + u) a b m.1 in
    (let z = n.0 in omega arith, n.1)

first_once : (t u : ℕ) (ts us : List ℕ) → turns_text t ts ≡ turns_text u us → (t ≡ u) × (rest_of t ts ≡ rest_of u us)
first_once t u ts us h = turn_once t u (rest_of t ts) (rest_of u us) (low_or_high t) (low_or_high u) (rest_ends t ts) (rest_ends u us) (sym (text_of t ts) ∙ h ∙ text_of u us)

list_once : (t u : ℕ) (ts us : List ℕ) → turns_text t ts ≡ turns_text u us → t ∷ ts ≡ u ∷ us
unfolding rest_of
list_once t u [] [] h = ap (λ x. x ∷ []) (first_once t u [] [] h).0
list_once t u [] (w ∷ ws) h = let e = (first_once t u [] (w ∷ ws) h).1 in absurd (cc)
list_once t u (v ∷ vs) [] h = let e = (first_once t u (v ∷ vs) [] h).1 in absurd (cc)
list_once t u (v ∷ vs) (w ∷ ws) h =
    let m = first_once t u (v ∷ vs) (w ∷ ws) h in
    ap (λ x. x ∷ v ∷ vs) m.0 ∙ ap (λ l. u ∷ l) (list_once v w vs ws (heads 44 44 (turns_text v vs) (turns_text w ws) m.1).1)

-- a turn's text begins with a digit
begins_digit : (b t : ℕ) (xs after : List ℕ) → (t < 10) ⊎ (10 ≤ t) → b ∷ xs ≡ turn_text t ++ after → (48 ≤ b) × (b ≤ 57)
begins_digit b t xs after (inl l) h = let m = heads b (48 + t) xs after (h ∙ text_low t after l) in (let z = m.0 in omega arith, let z = m.0 in omega arith)
begins_digit b t xs after (inr l) h = let m = heads b 49 xs ((38 + t) ∷ after) (h ∙ text_high t after l) in (let z = m.0 in omega arith, let z = m.0 in omega arith)

no_digits : (b t : ℕ) (xs ts : List ℕ) → b ∷ xs ≡ turns_text t ts → (48 ≤ b → b ≤ 57 → ⊥) → ⊥
no_digits b t xs ts h n = let d = begins_digit b t xs (rest_of t ts) (low_or_high t) (h ∙ text_of t ts) in n d.0 d.1

each_once : (word ts us : List ℕ) → AreTurns word ts → AreTurns word us → ts ≡ us
each_once word [] [] a b = refl
each_once word [] (u ∷ us) a b = absurd (no_digits 45 u [] us (sym a ∙ b) (λ l k. omega arith))
each_once word (t ∷ ts) [] a b = absurd (no_digits 45 t [] ts (sym b ∙ a) (λ l k. omega arith))
each_once word (t ∷ ts) (u ∷ us) a b = list_once t u ts us (sym a ∙ b)

not_both : (word digits ts : List ℕ) → word ≡ codes "rr:" ++ digits → AreTurns word ts → ⊥
not_both word digits [] r a = let m = heads 114 45 (114 ∷ 58 ∷ digits) [] (sym r ∙ a) in let z = m.0 in omega arith
not_both word digits (t ∷ ts) r a = no_digits 114 t (114 ∷ 58 ∷ digits) ts (sym r ∙ a) (λ l k. omega arith)

some_number : (m n : ℕ) → Some m ≡ Some n → m ≡ n
some_number m n h = cc

turns_once : (word : List ℕ) (a b : Turns) → IsTurns word a → IsTurns word b → a ≡ b
turns_once word (Rounds m) (Rounds n) a b = ap Rounds (some_number m n (sym a.number ∙ ap (whole_number most_turns) (same_digits word a.digits b.digits a.is b.is) ∙ b.number))
turns_once word (Rounds m) (Each ts) a b = absurd (not_both word a.digits ts a.is b.are)
turns_once word (Each ts) (Rounds n) a b = absurd (not_both word b.digits ts b.is a.are)
turns_once word (Each ts) (Each us) a b = ap Each (each_once word ts us a.are b.are)

same_words : (a b f g v w : List ℕ) → a ∷ f ∷ v ∷ b ∷ [] ≡ a ∷ g ∷ w ∷ b ∷ [] → (f ≡ g) × (v ≡ w)
same_words a b f g v w h = (cc, cc)

pub command_once : (words : List (List ℕ)) (file other : List ℕ) (turns more : Turns) → IsOrder words file turns → IsOrder words other more → (file ≡ other) × (turns ≡ more)
command_once words file other turns more a b =
    let w = same_words (codes "order") (codes "-") file other a.word b.word (sym a.is ∙ b.is) in
    (w.0, turns_once b.word turns more (subst (λ x. IsTurns x turns) w.1 a.takes) b.takes)
