-- A domain's state once joins that were found are applied to its ends, one after another and at once.
use Rattle.std.proofs.Common.{◌≡◌, ◌≢◌, ℕ, ℤ, Bool, true, false, cond, Option, Some, None, refl, ap, ◌∙◌, ◌⊎◌, inl, inr}
use Rattle.std.specs.Prelude.{◌||◌, ◌&&◌, ◌==◌, is_some, unwrap_or}
use Rattle.std.proofs.Math.Path.{fun_ext}
use Rattle.std.proofs.lemmas.Bool.{eq-eqb, ne_eqb, eqb-true, cond-true, cond-false}
use Rattle.kernel_terms.specs.declared.tables.Tables.{Tables}
use Rattle.kernel_terms.specs.TableEntries.{channel_at}
use Rattle.kernel_rules.specs.definitions.LegalTick.{DomainState}
use Rattle.domain_core.specs.definitions.runs.Systems.{WaitsToSend, WaitsToReceive, rewritten, with_found, only}
use Rattle.domain_core.proofs.lemmas.runs.JoinedStatements.{rewritten-both, rewritten-none, rewritten-same, still_sends, still_receives, waited_to_send, waited_to_receive}

pub same_joined : (a b x y : ℕ → Bool) (l m : ℕ → ℤ) (s : DomainState) → ((c : ℕ) → a c ≡ x c) → ((c : ℕ) → b c ≡ y c) → ((c : ℕ) → l c ≡ m c) →
    record s { statement = rewritten a b s.statement; last = l } ≡ record s { statement = rewritten x y s.statement; last = m }
same_joined a b x y l m s h k e =
    ap (λ q. record s { statement = q; last = l }) (rewritten-same a b x y s.statement h k)
    ∙ ap (λ q. record s { statement = rewritten x y s.statement; last = q }) (fun_ext e)

-- one of a channel's ends is the domain's
abbrev pub IsOwn : Tables → ℕ → ℕ → Type 0
IsOwn t d c = ((channel_at t c).sender ≡ d) ⊎ ((channel_at t c).receiver ≡ d)

and_some : (b : Bool) (x y : Option ℤ) → (b ≡ true → x ≡ y) → (b && is_some x) ≡ (b && is_some y)
and_some true x y h = ap is_some (h refl)
and_some false x y h = refl

cond_value : (b : Bool) (x y : Option ℤ) (old : ℤ) → (b ≡ true → x ≡ y) → cond b (unwrap_or x old) old ≡ cond b (unwrap_or y old) old
cond_value true x y old h = ap (λ z. unwrap_or z old) (h refl)
cond_value false x y old h = refl

-- only what is found at the domain's own ends counts
pub found_same : (t : Tables) (d : ℕ) (f g : ℕ → Option ℤ) (s : DomainState) → ((c : ℕ) → IsOwn t d c → f c ≡ g c) → with_found t d f s ≡ with_found t d g s
found_same t d f g s h =
    same_joined _ _ _ _ _ _ s
    (λ c. and_some ((channel_at t c).sender == d) (f c) (g c) (λ e. h c (inl (eqb-true (channel_at t c).sender d e))))
    (λ c. and_some ((channel_at t c).receiver == d) (f c) (g c) (λ e. h c (inr (eqb-true (channel_at t c).receiver d e))))
    (λ c. cond_value ((channel_at t c).receiver == d) (f c) (g c) (s.last c) (λ e. h c (inr (eqb-true (channel_at t c).receiver d e))))

pub found_none : (t : Tables) (d : ℕ) (f : ℕ → Option ℤ) (s : DomainState) → ((c : ℕ) → IsOwn t d c → f c ≡ None) → with_found t d f s ≡ s
found_none t d f s h =
    found_same t d f (λ c. None) s h
    ∙ same_joined _ _ (λ c. false) (λ c. false) _ s.last s (λ c. and_off ((channel_at t c).sender == d)) (λ c. and_off ((channel_at t c).receiver == d))
    (λ c. cond_off ((channel_at t c).receiver == d) (s.last c))
    ∙ ap (λ q. record s { statement = q; last = s.last }) (rewritten-none s.statement)
  where
    and_off : (b : Bool) → (b && false) ≡ false
    and_off true = refl
    and_off false = refl

    cond_off : (b : Bool) (x : ℤ) → cond b x x ≡ x
    cond_off true x = refl
    cond_off false x = refl

-- what is found later comes before what was found
abbrev pub or_found : Option ℤ → Option ℤ → Option ℤ
or_found (Some v) other = Some v
or_found None other = other

both_some : (b : Bool) (x y : Option ℤ) → ((b && is_some y) || (b && is_some x)) ≡ (b && is_some (or_found x y))
both_some false x y = refl
both_some true None None = refl
both_some true (Some v) None = refl
both_some true None (Some w) = refl
both_some true (Some v) (Some w) = refl

both_values : (b : Bool) (x y : Option ℤ) (old : ℤ) →
    cond b (unwrap_or x (cond b (unwrap_or y old) old)) (cond b (unwrap_or y old) old) ≡ cond b (unwrap_or (or_found x y) old) old
both_values false x y old = refl
both_values true None y old = refl
both_values true (Some v) y old = refl

pub found_both : (t : Tables) (d : ℕ) (f g : ℕ → Option ℤ) (s : DomainState) → with_found t d f (with_found t d g s) ≡ with_found t d (λ c. or_found (f c) (g c)) s
found_both t d f g s =
    ap (λ q. record s { statement = q; last = (with_found t d f (with_found t d g s)).last })
    (rewritten-both (λ c. ((channel_at t c).sender == d) && is_some (f c)) (λ c. ((channel_at t c).receiver == d) && is_some (f c))
    (λ c. ((channel_at t c).sender == d) && is_some (g c)) (λ c. ((channel_at t c).receiver == d) && is_some (g c)) s.statement)
    ∙ same_joined _ _ _ _ _ _ s
    (λ c. both_some ((channel_at t c).sender == d) (f c) (g c))
    (λ c. both_some ((channel_at t c).receiver == d) (f c) (g c))
    (λ c. both_values ((channel_at t c).receiver == d) (f c) (g c) (s.last c))

-- the join of one channel, there and elsewhere
pub only_here : (c : ℕ) (v : ℤ) → only c v c ≡ Some v
only_here c v = cond-true (c == c) (Some v) None (eq-eqb c c refl)

pub only_apart : (c : ℕ) (v : ℤ) (k : ℕ) → k ≢ c → only c v k ≡ None
only_apart c v k h = cond-false (k == c) (Some v) None (ne_eqb k c h)

-- a wait of a channel on which nothing is found stays, and none begins
pub found_still_sends : (t : Tables) (d : ℕ) (f : ℕ → Option ℤ) (s : DomainState) (c : ℕ) (v : ℤ) → (((channel_at t c).sender == d) && is_some (f c)) ≡ false →
    WaitsToSend c v s.statement → WaitsToSend c v (with_found t d f s).statement
found_still_sends t d f s c v h w = still_sends (λ b. ((channel_at t b).sender == d) && is_some (f b)) (λ b. ((channel_at t b).receiver == d) && is_some (f b)) c v s.statement h w

pub found_still_receives : (t : Tables) (d : ℕ) (f : ℕ → Option ℤ) (s : DomainState) (c : ℕ) → (((channel_at t c).receiver == d) && is_some (f c)) ≡ false →
    WaitsToReceive c s.statement → WaitsToReceive c (with_found t d f s).statement
found_still_receives t d f s c h w = still_receives (λ b. ((channel_at t b).sender == d) && is_some (f b)) (λ b. ((channel_at t b).receiver == d) && is_some (f b)) c s.statement h w

pub found_waited_to_send : (t : Tables) (d : ℕ) (f : ℕ → Option ℤ) (s : DomainState) (c : ℕ) (v : ℤ) → WaitsToSend c v (with_found t d f s).statement →
    ((((channel_at t c).sender == d) && is_some (f c)) ≡ false) × WaitsToSend c v s.statement
found_waited_to_send t d f s c v h = waited_to_send (λ b. ((channel_at t b).sender == d) && is_some (f b)) (λ b. ((channel_at t b).receiver == d) && is_some (f b)) c v s.statement h

pub found_waited_to_receive : (t : Tables) (d : ℕ) (f : ℕ → Option ℤ) (s : DomainState) (c : ℕ) → WaitsToReceive c (with_found t d f s).statement →
    ((((channel_at t c).receiver == d) && is_some (f c)) ≡ false) × WaitsToReceive c s.statement
found_waited_to_receive t d f s c h = waited_to_receive (λ b. ((channel_at t b).sender == d) && is_some (f b)) (λ b. ((channel_at t b).receiver == d) && is_some (f b)) c s.statement h
