-- Domains with no failure of signals and channel ends: each signal and each end is used by one.
use Rattle.std.proofs.Common.{◌≡◌, ◌⊎◌, ℕ, suc, ◌==◌, Bool, true, false, ◌||◌, ◌&&◌, not, cond, List, [], ◌∷◌, ◌++◌, length, Some, None, inl, inr, ap, refl, sym, ◌∙◌, subst, arith, append_assoc, append-nil, length-append}
use Rattle.std.specs.Prelude.{Option}
use Rattle.std.specs.List.{list_any, flat_map}
use Rattle.std.proofs.lemmas.Bool.Decides.{nat_tests}
use Rattle.std.proofs.lemmas.List.Folds.{list_any-append}
use Rattle.sj_names.specs.declared.mention.Mention.{Mention}
use Rattle.sj_names.specs.declared.mention.Role.{Role}
use Rattle.sj_names.specs.declared.mention.Role.TheVariants as role
use Rattle.sj_names.specs.declared.mention.Use.{Use}
use Rattle.sj_names.specs.declared.mention.Use.TheVariants as way
use Rattle.sj_names.specs.declared.failure.Failure.{Failure}
use Rattle.sj_names.specs.declared.failure.FailureKind.TheVariants.{ChannelEnds, SignalShared}
use Rattle.sj_names.specs.definitions.Failures.{failure_at, where_true, number_where, is_channel, is_send, is_receive, used, number_in, is_number, uses, first_with, shared_failure, shared_failures, end_failure, both_end_failures, domain_end_failures, end_failures, unjoined_failures}
use Rattle.sj_names.proofs.ListedNames.{IsIn, Stands, empty_first, empty_second, nothing_of, one_of_names, first_here, IsFirst, first_found, same_names}

untrue : (b : Bool) (f : Failure) → where_true b f ≡ [] → b ≡ false
untrue false f h = refl
untrue true f h = absurd (cc)

is_itself : (n : ℕ) → (n == n) ≡ true
is_itself n = grind (arith, nat_tests)

counts : (o : Option ℕ) (n : ℕ) → o ≡ Some n → is_number n o ≡ true
counts o n h = ap (is_number n) h ∙ is_itself n

pub used_by : (u : Use) (n : ℕ) (ms : List Mention) (m : Mention) → IsIn m ms → number_in u m ≡ Some n → uses u n ms ≡ true
used_by u n ms m i h = one_of_names (λ x. is_number n (number_in u x)) ms m i (counts (number_in u m) n h)

one_more : (earlier : List (List Mention)) (x : List Mention) → length (earlier ++ x ∷ []) ≡ suc (length earlier)
one_more earlier x = let l = length-append earlier (x ∷ []) in omega arith

-- signals

unshared : (earlier : List (List Mention)) (at n : ℕ) (o : Option ℕ) → o ≡ Some n → shared_failure earlier at o ≡ [] → list_any (uses way.PortSignal n) earlier ≡ false
unshared earlier at n o e h = untrue (list_any (uses way.PortSignal n) earlier) (failure_at SignalShared at) (ap (shared_failure earlier at) (sym e) ∙ h)

signal_first : (earlier domains : List (List Mention)) (k d n : ℕ) (ms : List Mention) (m : Mention) → shared_failures earlier domains ≡ [] → k ≡ length earlier → Stands k d ms domains → IsIn m ms → number_in way.PortSignal m ≡ Some n
    → first_with (uses way.PortSignal n) 0 (earlier ++ domains) ≡ Some d
signal_first earlier [] k d n ms m h e s i u = absurd s
signal_first earlier (x ∷ xs) k d n ms m h e (inl (g, f)) i u =
    let j = subst (IsIn m) f i in
    let o = nothing_of (λ y. shared_failure earlier y.at (number_in way.PortSignal y)) x m (empty_first (flat_map (λ y. shared_failure earlier y.at (number_in way.PortSignal y)) x) (shared_failures (earlier ++ x ∷ []) xs) h) j in
    first_here (uses way.PortSignal n) 0 d earlier x xs (unshared earlier m.at n (number_in way.PortSignal m) u o) (used_by way.PortSignal n x m j u) (omega arith)
signal_first earlier (x ∷ xs) k d n ms m h e (inr s) i u =
    ap (first_with (uses way.PortSignal n) 0) (sym (append_assoc earlier (x ∷ []) xs))
    ∙ signal_first (earlier ++ x ∷ []) xs (suc k) d n ms m (empty_second (flat_map (λ y. shared_failure earlier y.at (number_in way.PortSignal y)) x) (shared_failures (earlier ++ x ∷ []) xs) h)
    (ap suc e ∙ sym (one_more earlier x)) s i u

pub signal_owner : (domains : List (List Mention)) (d n : ℕ) (ms : List Mention) (m : Mention) → shared_failures [] domains ≡ [] → Stands 0 d ms domains → IsIn m ms → number_in way.PortSignal m ≡ Some n → first_with (uses way.PortSignal n) 0 domains ≡ Some d
signal_owner domains d n ms m h s i u = signal_first [] domains 0 d n ms m h refl s i u

-- ends of channels

neither_first : (a b : Bool) → (a || b) ≡ false → a ≡ false
neither_first false b h = refl
neither_first true b h = absurd (cc)

neither_second : (a b : Bool) → (a || b) ≡ false → b ≡ false
neither_second false b h = h
neither_second true b h = absurd (cc)

unended : (this other : Use) (earlier : List (List Mention)) (before : List Mention) (at n : ℕ) (o : Option ℕ) → o ≡ Some n → end_failure this other earlier before at o ≡ [] → (list_any (uses this n) earlier || uses other n before) ≡ false
unended this other earlier before at n o e h = untrue (list_any (uses this n) earlier || uses other n before) (failure_at ChannelEnds at) (ap (end_failure this other earlier before at) (sym e) ∙ h)

-- no earlier domain uses either end of a channel that this name uses at that end
record HasEndsAlone (earlier : List (List Mention)) (m : Mention) : Type 0 where
  sends : (n : ℕ) → number_in way.SendingEnd m ≡ Some n → list_any (uses way.SendingEnd n) earlier ≡ false
  receives : (n : ℕ) → number_in way.ReceivingEnd m ≡ Some n → list_any (uses way.ReceivingEnd n) earlier ≡ false

ends_alone : (earlier : List (List Mention)) (before ms : List Mention) (m : Mention) → domain_end_failures earlier before ms ≡ [] → IsIn m ms → HasEndsAlone earlier m
ends_alone earlier before [] m h i = absurd i
ends_alone earlier before (x ∷ xs) m h (inl e) =
    let b = empty_first (both_end_failures earlier before x) (domain_end_failures earlier (before ++ x ∷ []) xs) h in
    let s = empty_first (end_failure way.SendingEnd way.ReceivingEnd earlier before x.at (number_in way.SendingEnd x)) (end_failure way.ReceivingEnd way.SendingEnd earlier before x.at (number_in way.ReceivingEnd x)) b in
    let r = empty_second (end_failure way.SendingEnd way.ReceivingEnd earlier before x.at (number_in way.SendingEnd x)) (end_failure way.ReceivingEnd way.SendingEnd earlier before x.at (number_in way.ReceivingEnd x)) b in
    record {
      sends = λ n u. neither_first (list_any (uses way.SendingEnd n) earlier) (uses way.ReceivingEnd n before) (unended way.SendingEnd way.ReceivingEnd earlier before x.at n (number_in way.SendingEnd x) (ap (number_in way.SendingEnd) (sym e) ∙ u) s);
      receives = λ n u. neither_first (list_any (uses way.ReceivingEnd n) earlier) (uses way.SendingEnd n before) (unended way.ReceivingEnd way.SendingEnd earlier before x.at n (number_in way.ReceivingEnd x) (ap (number_in way.ReceivingEnd) (sym e) ∙ u) r);
    }
ends_alone earlier before (x ∷ xs) m h (inr i) = ends_alone earlier (before ++ x ∷ []) xs m (empty_second (both_end_failures earlier before x) (domain_end_failures earlier (before ++ x ∷ []) xs) h) i

-- the domain is the first that uses each end that this name uses
pub record OwnsEnds (domains : List (List Mention)) (d : ℕ) (m : Mention) : Type 0 where
  pub sends : (n : ℕ) → number_in way.SendingEnd m ≡ Some n → first_with (uses way.SendingEnd n) 0 domains ≡ Some d
  pub receives : (n : ℕ) → number_in way.ReceivingEnd m ≡ Some n → first_with (uses way.ReceivingEnd n) 0 domains ≡ Some d

ends_first : (earlier domains : List (List Mention)) (k d : ℕ) (ms : List Mention) (m : Mention) → end_failures earlier domains ≡ [] → k ≡ length earlier → Stands k d ms domains → IsIn m ms → OwnsEnds (earlier ++ domains) d m
ends_first earlier [] k d ms m h e s i = absurd s
ends_first earlier (x ∷ xs) k d ms m h e (inl (g, f)) i =
    let j = subst (IsIn m) f i in
    let a = ends_alone earlier [] x m (empty_first (domain_end_failures earlier [] x) (end_failures (earlier ++ x ∷ []) xs) h) j in
    record {
      sends = λ n u. first_here (uses way.SendingEnd n) 0 d earlier x xs (a.sends n u) (used_by way.SendingEnd n x m j u) (omega arith);
      receives = λ n u. first_here (uses way.ReceivingEnd n) 0 d earlier x xs (a.receives n u) (used_by way.ReceivingEnd n x m j u) (omega arith);
    }
ends_first earlier (x ∷ xs) k d ms m h e (inr s) i =
    subst (λ l. OwnsEnds l d m) (append_assoc earlier (x ∷ []) xs)
    (ends_first (earlier ++ x ∷ []) xs (suc k) d ms m (empty_second (domain_end_failures earlier [] x) (end_failures (earlier ++ x ∷ []) xs) h) (ap suc e ∙ sym (one_more earlier x)) s i)

pub end_owner : (domains : List (List Mention)) (d : ℕ) (ms : List Mention) (m : Mention) → end_failures [] domains ≡ [] → Stands 0 d ms domains → IsIn m ms → OwnsEnds domains d m
end_owner domains d ms m h s i = ends_first [] domains 0 d ms m h refl s i

-- no domain uses both ends of a channel

not_both : (b : Bool) (o : Option ℕ) (n : ℕ) → (is_number n (cond b o None) && is_number n (cond (not b) o None)) ≡ false
not_both true o n = none (is_number n o)
  where
    none : (a : Bool) → (a && false) ≡ false
    none true = refl
    none false = refl
not_both false o n = refl

one_end : (n : ℕ) (m : Mention) → (is_number n (number_in way.SendingEnd m) && is_number n (number_in way.ReceivingEnd m)) ≡ false
one_end n m = not_both (is_send m.role) (number_where is_channel (used m.role m.meaning)) n

number_is : (n : ℕ) (o : Option ℕ) → is_number n o ≡ true → o ≡ Some n
number_is n None h = absurd (cc)
number_is n (Some k) h = ap Some (same k n h)
  where
    same : (a b : ℕ) → (a == b) ≡ true → a ≡ b
    same a b h = grind (arith, nat_tests)

step : (s r a b : Bool) → (s && r) ≡ false → (a && b) ≡ false → (a ≡ true → r ≡ false) → (b ≡ true → s ≡ false) → ((s || (a || false)) && (r || (b || false))) ≡ false
step s r true true h k f g = absurd (cc)
step true true a b h k f g = absurd (cc)
step true false a true h k f g = let e = g refl in absurd (cc)
step true false a false h k f g = refl
step false r false b h k f g = refl
step false true true b h k f g = let e = f refl in absurd (cc)
step false false true false h k f g = refl

with_one : (u : Use) (n : ℕ) (before : List Mention) (m : Mention) → uses u n (before ++ m ∷ []) ≡ (uses u n before || (is_number n (number_in u m) || false))
with_one u n before m = list_any-append (λ x. is_number n (number_in u x)) before (m ∷ [])

ends_apart_from : (n : ℕ) (earlier : List (List Mention)) (before ms : List Mention) → (uses way.SendingEnd n before && uses way.ReceivingEnd n before) ≡ false → domain_end_failures earlier before ms ≡ [] → (uses way.SendingEnd n (before ++ ms) && uses way.ReceivingEnd n (before ++ ms)) ≡ false
ends_apart_from n earlier before [] b h = ap (λ l. uses way.SendingEnd n l && uses way.ReceivingEnd n l) (append-nil before) ∙ b
ends_apart_from n earlier before (x ∷ xs) b h =
    ap (λ l. uses way.SendingEnd n l && uses way.ReceivingEnd n l) (sym (append_assoc before (x ∷ []) xs)) ∙ ends_apart_from n earlier (before ++ x ∷ []) xs more (empty_second (both_end_failures earlier before x) (domain_end_failures earlier (before ++ x ∷ []) xs) h)
  where
    own : both_end_failures earlier before x ≡ []
    own = empty_first (both_end_failures earlier before x) (domain_end_failures earlier (before ++ x ∷ []) xs) h

    sending : is_number n (number_in way.SendingEnd x) ≡ true → uses way.ReceivingEnd n before ≡ false
    sending a =
        neither_second (list_any (uses way.SendingEnd n) earlier) (uses way.ReceivingEnd n before)
        (unended way.SendingEnd way.ReceivingEnd earlier before x.at n (number_in way.SendingEnd x) (number_is n (number_in way.SendingEnd x) a)
        (empty_first (end_failure way.SendingEnd way.ReceivingEnd earlier before x.at (number_in way.SendingEnd x)) (end_failure way.ReceivingEnd way.SendingEnd earlier before x.at (number_in way.ReceivingEnd x)) own))

    receiving : is_number n (number_in way.ReceivingEnd x) ≡ true → uses way.SendingEnd n before ≡ false
    receiving a =
        neither_second (list_any (uses way.ReceivingEnd n) earlier) (uses way.SendingEnd n before)
        (unended way.ReceivingEnd way.SendingEnd earlier before x.at n (number_in way.ReceivingEnd x) (number_is n (number_in way.ReceivingEnd x) a)
        (empty_second (end_failure way.SendingEnd way.ReceivingEnd earlier before x.at (number_in way.SendingEnd x)) (end_failure way.ReceivingEnd way.SendingEnd earlier before x.at (number_in way.ReceivingEnd x)) own))

    more : (uses way.SendingEnd n (before ++ x ∷ []) && uses way.ReceivingEnd n (before ++ x ∷ [])) ≡ false
    more =
        ap (λ c. c && uses way.ReceivingEnd n (before ++ x ∷ [])) (with_one way.SendingEnd n before x)
        ∙ ap (λ c. (uses way.SendingEnd n before || (is_number n (number_in way.SendingEnd x) || false)) && c) (with_one way.ReceivingEnd n before x)
        ∙ step (uses way.SendingEnd n before) (uses way.ReceivingEnd n before) (is_number n (number_in way.SendingEnd x)) (is_number n (number_in way.ReceivingEnd x)) b (one_end n x) sending receiving

ends_apart : (n : ℕ) (earlier domains : List (List Mention)) (k d : ℕ) (ms : List Mention) → end_failures earlier domains ≡ [] → Stands k d ms domains → (uses way.SendingEnd n ms && uses way.ReceivingEnd n ms) ≡ false
ends_apart n earlier [] k d ms h s = absurd s
ends_apart n earlier (x ∷ xs) k d ms h (inl (e, f)) =
    ap (λ l. uses way.SendingEnd n l && uses way.ReceivingEnd n l) f ∙ ends_apart_from n earlier [] x refl (empty_first (domain_end_failures earlier [] x) (end_failures (earlier ++ x ∷ []) xs) h)
ends_apart n earlier (x ∷ xs) k d ms h (inr s) = ends_apart n (earlier ++ x ∷ []) xs (suc k) d ms (empty_second (domain_end_failures earlier [] x) (end_failures (earlier ++ x ∷ []) xs) h) s

-- channels that are joined

received_number : (b : Bool) (o : Option ℕ) (n : ℕ) (a : Bool) → (a ≡ true → b ≡ false) → is_number n (cond a o None) ≡ true → is_number n (cond (not b) o None) ≡ true
received_number b o n true f h = ap (λ c. is_number n (cond (not c) o None)) (f refl) ∙ h
received_number b o n false f h = absurd (cc)

receive_only : (r : Role) → is_receive r ≡ true → is_send r ≡ false
receive_only (role.Declare s) h = refl
receive_only role.Emit h = refl
receive_only role.Test h = refl
receive_only role.Send h = absurd (cc)
receive_only role.Receive h = refl
receive_only role.Status h = refl
receive_only role.Exit h = refl
receive_only role.Variable h = refl

either : (a b : Bool) → (a || b) ≡ true → (a ≡ true) ⊎ (b ≡ true)
either true b h = inl refl
either false b h = inr h

or_true : (b : Bool) → (b || true) ≡ true
or_true true = refl
or_true false = refl

pub receives_at : (n : ℕ) (ms : List Mention) → uses way.Receive n ms ≡ true → uses way.ReceivingEnd n ms ≡ true
receives_at n [] h = absurd (cc)
receives_at n (m ∷ ms) h = pick (either (is_number n (number_in way.Receive m)) (uses way.Receive n ms) h) (λ e. receives_at n ms e)
  where
    pick : (is_number n (number_in way.Receive m) ≡ true) ⊎ (uses way.Receive n ms ≡ true) → (uses way.Receive n ms ≡ true → uses way.ReceivingEnd n ms ≡ true) → uses way.ReceivingEnd n (m ∷ ms) ≡ true
    pick (inl e) next = ap (λ b. b || uses way.ReceivingEnd n ms) (received_number (is_send m.role) (number_where is_channel (used m.role m.meaning)) n (is_receive m.role) (receive_only m.role) e)
    pick (inr e) next = ap (λ b. is_number n (number_in way.ReceivingEnd m) || b) (next e) ∙ or_true (is_number n (number_in way.ReceivingEnd m))

any_received : (n : ℕ) (domains : List (List Mention)) → list_any (uses way.Receive n) domains ≡ true → list_any (uses way.ReceivingEnd n) domains ≡ true
any_received n [] h = absurd (cc)
any_received n (x ∷ xs) h = pick (either (uses way.Receive n x) (list_any (uses way.Receive n) xs) h) (λ e. any_received n xs e)
  where
    pick : (uses way.Receive n x ≡ true) ⊎ (list_any (uses way.Receive n) xs ≡ true) → (list_any (uses way.Receive n) xs ≡ true → list_any (uses way.ReceivingEnd n) xs ≡ true) → list_any (uses way.ReceivingEnd n) (x ∷ xs) ≡ true
    pick (inl e) next = ap (λ b. b || list_any (uses way.ReceivingEnd n) xs) (receives_at n x e)
    pick (inr e) next = ap (λ b. uses way.ReceivingEnd n x || b) (next e) ∙ or_true (uses way.ReceivingEnd n x)

-- the channels from one number on, as many as there are places, have two ends
abbrev pub AreJoined : List (List Mention) → ℕ → List ℕ → Type 0
AreJoined domains c [] = Unit {0}
AreJoined domains c (at ∷ places) = ((list_any (uses way.SendingEnd c) domains ≡ true) × (list_any (uses way.ReceivingEnd c) domains ≡ true)) × AreJoined domains (suc c) places

not_false : (b : Bool) → not b ≡ false → b ≡ true
not_false true h = refl
not_false false h = absurd (cc)

both_first : (a b : Bool) → (a && b) ≡ true → a ≡ true
both_first true b h = refl
both_first false b h = absurd (cc)

both_second : (a b : Bool) → (a && b) ≡ true → b ≡ true
both_second true b h = h
both_second false b h = absurd (cc)

pub joined : (domains : List (List Mention)) (c : ℕ) (places : List ℕ) → unjoined_failures domains c places ≡ [] → AreJoined domains c places
joined domains c [] h = tt
joined domains c (at ∷ places) h =
    let u = untrue (not (list_any (uses way.SendingEnd c) domains && list_any (uses way.Receive c) domains)) (failure_at ChannelEnds at)
    (empty_first (where_true (not (list_any (uses way.SendingEnd c) domains && list_any (uses way.Receive c) domains)) (failure_at ChannelEnds at)) (unjoined_failures domains (suc c) places) h) in
    let b = not_false (list_any (uses way.SendingEnd c) domains && list_any (uses way.Receive c) domains) u in (
      (both_first (list_any (uses way.SendingEnd c) domains) (list_any (uses way.Receive c) domains) b, any_received c domains (both_second (list_any (uses way.SendingEnd c) domains) (list_any (uses way.Receive c) domains) b)),
      joined domains (suc c) places (empty_second (where_true (not (list_any (uses way.SendingEnd c) domains && list_any (uses way.Receive c) domains)) (failure_at ChannelEnds at)) (unjoined_failures domains (suc c) places) h),
    )

-- the two ends of a joined channel stand in two domains
pub record HasTwoEnds (domains : List (List Mention)) (c : ℕ) : Type 0 where
  pub sender : ℕ
  pub receiver : ℕ
  pub sends : first_with (uses way.SendingEnd c) 0 domains ≡ Some sender
  pub receives : first_with (uses way.ReceivingEnd c) 0 domains ≡ Some receiver
  pub apart : sender ≡ receiver → ⊥

different : false ≡ true → ⊥
different x = cc

pub two_ends : (domains : List (List Mention)) (c : ℕ) → end_failures [] domains ≡ [] → list_any (uses way.SendingEnd c) domains ≡ true → list_any (uses way.ReceivingEnd c) domains ≡ true → HasTwoEnds domains c
two_ends domains c h s r =
    let a = first_found (uses way.SendingEnd c) 0 domains s in
    let b = first_found (uses way.ReceivingEnd c) 0 domains r in
    record { sender = a.domain; receiver = b.domain; sends = a.first; receives = b.first; apart = λ e. clash a b e }
  where
    clash : (a : IsFirst (uses way.SendingEnd c) 0 domains) (b : IsFirst (uses way.ReceivingEnd c) 0 domains) → a.domain ≡ b.domain → ⊥
    clash a b e =
        let n = same_names 0 a.domain a.names b.names domains a.stands (subst (λ d. Stands 0 d b.names domains) (sym e) b.stands) in
        let t = ends_apart c [] domains 0 a.domain a.names h a.stands in
        let p : (uses way.SendingEnd c a.names && uses way.ReceivingEnd c a.names) ≡ true = ap (λ v. v && uses way.ReceivingEnd c a.names) a.passes ∙ ap (uses way.ReceivingEnd c) n ∙ b.passes in
        different (sym t ∙ p)
