-- Both ends of a cell find the same joins.
use Rattle.std.proofs.Common.{◌≡◌, ℕ, ℤ, suc, arith, List, [], ◌∷◌, Option, Some, None, map, refl, sym, ap, ◌∙◌, subst, inl, inr, ◌⊎◌}
use Rattle.std.specs.Prelude.{max}
use Rattle.cell_core.specs.declared.moves.Joined.{Joined}
use Rattle.cell_core.specs.declared.cell.Standing.{Standing}
use Rattle.cell_core.specs.declared.cell.Standing.TheVariants.{Empty, Open, Taken}
use Rattle.domain_core.specs.definitions.rounds.Rounds.{Found}
use Rattle.domain_core.specs.definitions.runs.Stamps.{stamp_of_join}
use Rattle.domain_core.proofs.lemmas.rounds.CellMoves.{EndEntry, Offered, Recalled, SideEntry, BySender, ByReceiver, CellRuns, of_sender, of_receiver}

-- an offer with what became of it: joined at once, or it stood until its recall
pub data Exchange : Type 0 where
  AtOnce : (number : ℕ) (value : ℤ) (stamp : ℕ) (join : Joined) → Exchange
  Stood : (number : ℕ) (value : ℤ) (stamp : ℕ) (reply : Option Joined) → Exchange

abbrev pub entries_of : List Exchange → List EndEntry
entries_of [] = []
entries_of (AtOnce n v s j ∷ xs) = Offered v s (Some j) ∷ entries_of xs
entries_of (Stood n v s reply ∷ xs) = Offered v s None ∷ Recalled reply ∷ entries_of xs

abbrev pub found_of : List Exchange → List Found
found_of [] = []
found_of (AtOnce n v s j ∷ xs) = record { number = n; value = j.value; stamp = stamp_of_join j } ∷ found_of xs
found_of (Stood n v s None ∷ xs) = found_of xs
found_of (Stood n v s (Some j) ∷ xs) = record { number = n; value = j.value; stamp = stamp_of_join j } ∷ found_of xs

-- the joins of a sender have the values that it offered
abbrev pub KeepsValue : ℤ → Option Joined → Type 0
KeepsValue v None = Unit {0}
KeepsValue v (Some j) = j.value ≡ v

abbrev pub KeepValues : List Exchange → Type 0
KeepValues [] = Unit {0}
KeepValues (AtOnce n v s j ∷ xs) = (j.value ≡ v) × KeepValues xs
KeepValues (Stood n v s reply ∷ xs) = KeepsValue v reply × KeepValues xs

-- what is left of an end's moves: whole exchanges, or the recall of one that stands and then these
pub data Left : Type 0 where
  Idle : (rest : List Exchange) → Left
  Waits : (number : ℕ) (value : ℤ) (stamp : ℕ) (reply : Option Joined) (rest : List Exchange) → Left

abbrev pub left_entries : Left → List EndEntry
left_entries (Idle xs) = entries_of xs
left_entries (Waits n v s reply xs) = Recalled reply ∷ entries_of xs

abbrev pub left_exchanges : Left → List Exchange
left_exchanges (Idle xs) = xs
left_exchanges (Waits n v s reply xs) = Stood n v s reply ∷ xs

-- a side in this state, and the join that was made with it and that it has still to find
abbrev pub SideIs : Standing → Left → Type 0
SideIs a (Idle xs) = a ≡ Empty
SideIs a (Waits n v s reply xs) = (a ≡ Open v s) ⊎ ((j : Joined) × (a ≡ Taken j))

abbrev pub SenderIs : Standing → Left → Type 0
SenderIs a (Idle xs) = a ≡ Empty
SenderIs a (Waits n v s reply xs) = (a ≡ Open v s) ⊎ ((j : Joined) × (a ≡ Taken j) × (j.value ≡ v))

abbrev pub pending : Standing → Left → List Found → List Found
pending (Taken j) (Waits n v s reply xs) rest = record { number = n; value = j.value; stamp = stamp_of_join j } ∷ rest
pending (Taken j) (Idle xs) rest = rest
pending Empty x rest = rest
pending (Open v s) x rest = rest

-- a join with the stamps of its two offers
pub record Meeting : Type 0 where
  pub value : ℤ
  pub sender_ticks : ℕ
  pub receiver_ticks : ℕ
  pub sender_stamp : ℕ
  pub receiver_stamp : ℕ

abbrev pub seen_by_sender : Meeting → Found
seen_by_sender m = record { number = m.sender_ticks; value = m.value; stamp = suc (max m.sender_stamp m.receiver_stamp) }

abbrev pub seen_by_receiver : Meeting → Found
seen_by_receiver m = record { number = m.receiver_ticks; value = m.value; stamp = suc (max m.sender_stamp m.receiver_stamp) }

abbrev pub at_sender : List Meeting → List Found
at_sender = map seen_by_sender

abbrev pub at_receiver : List Meeting → List Found
at_receiver = map seen_by_receiver

-- a fact on the number and the stamp of each offer
abbrev pub AllStamps : (ℕ → ℕ → Type 0) → List Exchange → Type 0
AllStamps Q [] = Unit {0}
AllStamps Q (AtOnce n v s j ∷ xs) = Q n s × AllStamps Q xs
AllStamps Q (Stood n v s reply ∷ xs) = Q n s × AllStamps Q xs

abbrev pub AllMeet : (ℕ → ℕ → Type 0) → (ℕ → ℕ → Type 0) → List Meeting → Type 0
AllMeet Q R [] = Unit {0}
AllMeet Q R (m ∷ ms) = Q m.sender_ticks m.sender_stamp × R m.receiver_ticks m.receiver_stamp × AllMeet Q R ms

swap_max : (a b : ℕ) → suc (max a b) ≡ suc (max b a)
swap_max a b = omega arith

pub record SameJoins (QS QR : ℕ → ℕ → Type 0) (a b : Standing) (x y : Left) : Type 0 where
  pub joins : List Meeting
  pub stamps : AllMeet QS QR joins
  pub sender : found_of (left_exchanges x) ≡ pending a x (at_sender joins)
  pub receiver : found_of (left_exchanges y) ≡ pending b y (at_receiver joins)
  pub values : KeepValues (left_exchanges x)

-- an end that has no moves left
ended : (x : Left) → [] ≡ left_entries x → x ≡ Idle []
ended (Idle []) h = refl
ended (Idle (AtOnce n v s j ∷ xs)) h = cc
ended (Idle (Stood n v s r ∷ xs)) h = cc
ended (Waits n v s r xs) h = cc

pub walk : (QS QR : ℕ → ℕ → Type 0) (entries : List SideEntry) (a b : Standing) (x y : Left) → SenderIs a x → SideIs b y → CellRuns a b entries →
    of_sender entries ≡ left_entries x → of_receiver entries ≡ left_entries y → AllStamps QS (left_exchanges x) → AllStamps QR (left_exchanges y) → SameJoins QS QR a b x y
walk QS QR [] a b x y p q c h k f g =
    let ex = ended x h in
    let ey = ended y k in
    let pa : a ≡ Empty = subst (SenderIs a) ex p in
    let qb : b ≡ Empty = subst (SideIs b) ey q in
    let P : Left → Type 0 = λ z. SameJoins QS QR a b z y in
    let Q : Left → Type 0 = λ z. SameJoins QS QR a b (Idle []) z in
    let R : Standing → Type 0 = λ z. SameJoins QS QR z b (Idle []) (Idle []) in
    let S : Standing → Type 0 = λ z. SameJoins QS QR Empty z (Idle []) (Idle []) in
    subst P (sym ex) (subst Q (sym ey) (subst R (sym pa) (subst S (sym qb) (record { joins = []; stamps = tt; sender = refl; receiver = refl; values = tt }))))
-- the sender offers
walk QS QR (BySender (Offered v s reply) ∷ es) a b (Waits n w u r xs) y p q c h k f g = cc
walk QS QR (BySender (Offered v s reply) ∷ es) a b (Idle []) y p q c h k f g = cc
walk QS QR (BySender (Offered v s reply) ∷ es) a Empty (Idle (AtOnce n w u j ∷ xs)) y p q c h k f g = let e = c.1.0 in cc
walk QS QR (BySender (Offered v s reply) ∷ es) a (Taken i) (Idle (AtOnce n w u j ∷ xs)) y p q c h k f g = let e = c.1.0 in cc
walk QS QR (BySender (Offered v s reply) ∷ es) a (Open w2 u2) (Idle (AtOnce n w u j ∷ xs)) (Idle ys) p q c h k f g = cc
walk QS QR (BySender (Offered v s reply) ∷ es) a (Open w2 u2) (Idle (AtOnce n w u j ∷ xs)) (Waits m w3 u3 r ys) p (inr q) c h k f g = let e = q.1 in cc
walk QS QR (BySender (Offered v s reply) ∷ es) a (Open w2 u2) (Idle (AtOnce n w u j ∷ xs)) (Waits m w3 u3 r ys) p (inl q) c h k f g =
    let e = c.1.0 in
    let vw : v ≡ w = cc in
    let rest : of_sender es ≡ entries_of xs = cc in
    let ji : j ≡ record { value = v; mine = s; theirs = u2 } = cc in
    let jv : j.value ≡ v = ap (λ o. o.value) ji in
    let next = walk QS QR es Empty (Taken (record { value = v; mine = u2; theirs = s })) (Idle xs) (Waits m w3 u3 r ys) refl
    (inr (record { value = v; mine = u2; theirs = s }, refl)) c.1.1 rest k f.1 g in
    let su : u ≡ s = cc in
    let uu : u3 ≡ u2 = cc in
    let R : Standing → Type 0 = λ z. SameJoins QS QR z (Open w2 u2) (Idle (AtOnce n w u j ∷ xs)) (Waits m w3 u3 r ys) in
    subst R (sym c.0) (record {
      joins = record { value = v; sender_ticks = n; receiver_ticks = m; sender_stamp = s; receiver_stamp = u2 } ∷ next.joins;
      stamps = (subst (QS n) su f.0, subst (QR m) uu g.0, next.stamps);
      sender = ap (λ z. record { number = n; value = z.value; stamp = stamp_of_join z } ∷ found_of xs) ji ∙ ap (λ l. record { number = n; value = v; stamp = suc (max s u2) } ∷ l) next.sender;
      receiver = next.receiver ∙ ap (λ z. record { number = m; value = v; stamp = z } ∷ at_receiver next.joins) (swap_max u2 s);
      values = (jv ∙ vw, next.values);
    })
walk QS QR (BySender (Offered v s reply) ∷ es) a (Open w2 u2) (Idle (Stood n w u r ∷ xs)) y p q c h k f g = let e = c.1.0 in cc
walk QS QR (BySender (Offered v s reply) ∷ es) a Empty (Idle (Stood n w u r ∷ xs)) y p q c h k f g =
    let rest : of_sender es ≡ Recalled r ∷ entries_of xs = cc in
    let same : Open v s ≡ Open w u = cc in
    let next = walk QS QR es (Open v s) Empty (Waits n w u r xs) y (inl same) q c.1.1 rest k f g in
    let R : Standing → Type 0 = λ z. SameJoins QS QR z Empty (Idle (Stood n w u r ∷ xs)) y in
    subst R (sym c.0) (record { joins = next.joins; stamps = next.stamps; sender = next.sender; receiver = next.receiver; values = next.values })
walk QS QR (BySender (Offered v s reply) ∷ es) a (Taken i) (Idle (Stood n w u r ∷ xs)) y p q c h k f g =
    let rest : of_sender es ≡ Recalled r ∷ entries_of xs = cc in
    let same : Open v s ≡ Open w u = cc in
    let next = walk QS QR es (Open v s) (Taken i) (Waits n w u r xs) y (inl same) q c.1.1 rest k f g in
    let R : Standing → Type 0 = λ z. SameJoins QS QR z (Taken i) (Idle (Stood n w u r ∷ xs)) y in
    subst R (sym c.0) (record { joins = next.joins; stamps = next.stamps; sender = next.sender; receiver = next.receiver; values = next.values })
-- the sender recalls
walk QS QR (BySender (Recalled reply) ∷ es) a b (Idle []) y p q c h k f g = cc
walk QS QR (BySender (Recalled reply) ∷ es) a b (Idle (AtOnce n w u j ∷ xs)) y p q c h k f g = cc
walk QS QR (BySender (Recalled reply) ∷ es) a b (Idle (Stood n w u r ∷ xs)) y p q c h k f g = cc
walk QS QR (BySender (Recalled reply) ∷ es) Empty b (Waits n w u r xs) y p q c h k f g = absurd c
walk QS QR (BySender (Recalled reply) ∷ es) (Open v s) b (Waits n w u r xs) y p q c h k f g =
    let rest : of_sender es ≡ entries_of xs = cc in
    let e = c.0 in
    let rn : r ≡ None = cc in
    let next = walk QS QR es Empty b (Idle xs) y refl q c.1 rest k f.1 g in
    let P : Option Joined → Type 0 = λ z. SameJoins QS QR (Open v s) b (Waits n w u z xs) y in
    subst P (sym rn) (record { joins = next.joins; stamps = next.stamps; sender = next.sender; receiver = next.receiver; values = (tt, next.values) })
walk QS QR (BySender (Recalled reply) ∷ es) (Taken j) b (Waits n w u r xs) y (inl p) q c h k f g = cc
walk QS QR (BySender (Recalled reply) ∷ es) (Taken j) b (Waits n w u r xs) y (inr p) q c h k f g =
    let rest : of_sender es ≡ entries_of xs = cc in
    let e = c.0 in
    let rn : r ≡ Some j = cc in
    let same = p.1 in
    let jj : j ≡ p.0 = cc in
    let next = walk QS QR es Empty b (Idle xs) y refl q c.1 rest k f.1 g in
    let P : Option Joined → Type 0 = λ z. SameJoins QS QR (Taken j) b (Waits n w u z xs) y in
    subst P (sym rn) (record {
      joins = next.joins;
      stamps = next.stamps;
      sender = ap (λ l. record { number = n; value = j.value; stamp = stamp_of_join j } ∷ l) next.sender;
      receiver = next.receiver;
      values = (ap (λ z. z.value) jj ∙ p.2, next.values);
    })
-- the receiver offers
walk QS QR (ByReceiver (Offered v s reply) ∷ es) a b x (Waits m w u r ys) p q c h k f g = cc
walk QS QR (ByReceiver (Offered v s reply) ∷ es) a b x (Idle []) p q c h k f g = cc
walk QS QR (ByReceiver (Offered v s reply) ∷ es) Empty b x (Idle (AtOnce m w u j ∷ ys)) p q c h k f g = let e = c.1.0 in cc
walk QS QR (ByReceiver (Offered v s reply) ∷ es) (Taken i) b x (Idle (AtOnce m w u j ∷ ys)) p q c h k f g = let e = c.1.0 in cc
walk QS QR (ByReceiver (Offered v s reply) ∷ es) (Open w2 u2) b (Idle xs) (Idle (AtOnce m w u j ∷ ys)) p q c h k f g = cc
walk QS QR (ByReceiver (Offered v s reply) ∷ es) (Open w2 u2) b (Waits n w3 u3 r xs) (Idle (AtOnce m w u j ∷ ys)) (inr p) q c h k f g = let e = p.1 in cc
walk QS QR (ByReceiver (Offered v s reply) ∷ es) (Open w2 u2) b (Waits n w3 u3 r xs) (Idle (AtOnce m w u j ∷ ys)) (inl p) q c h k f g =
    let e = c.1.0 in
    let ww : w2 ≡ w3 = cc in
    let rest : of_receiver es ≡ entries_of ys = cc in
    let ji : j ≡ record { value = w2; mine = s; theirs = u2 } = cc in
    let jv : j.value ≡ w2 = ap (λ o. o.value) ji in
    let next = walk QS QR es (Taken (record { value = w2; mine = u2; theirs = s })) Empty (Waits n w3 u3 r xs) (Idle ys)
    (inr (record { value = w2; mine = u2; theirs = s }, refl, ww)) refl c.1.1 h rest f g.1 in
    let su : u ≡ s = cc in
    let uu : u3 ≡ u2 = cc in
    let R : Standing → Type 0 = λ z. SameJoins QS QR (Open w2 u2) z (Waits n w3 u3 r xs) (Idle (AtOnce m w u j ∷ ys)) in
    subst R (sym c.0) (record {
      joins = record { value = w2; sender_ticks = n; receiver_ticks = m; sender_stamp = u2; receiver_stamp = s } ∷ next.joins;
      stamps = (subst (QS n) uu f.0, subst (QR m) su g.0, next.stamps);
      sender = next.sender;
      receiver = ap (λ z. record { number = m; value = z.value; stamp = stamp_of_join z } ∷ found_of ys) ji ∙ ap (λ z. record { number = m; value = w2; stamp = z } ∷ found_of ys) (swap_max s u2)
          ∙ ap (λ l. record { number = m; value = w2; stamp = suc (max u2 s) } ∷ l) next.receiver;
      values = next.values;
    })
walk QS QR (ByReceiver (Offered v s reply) ∷ es) (Open w2 u2) b x (Idle (Stood m w u r ∷ ys)) p q c h k f g = let e = c.1.0 in cc
walk QS QR (ByReceiver (Offered v s reply) ∷ es) Empty b x (Idle (Stood m w u r ∷ ys)) p q c h k f g =
    let rest : of_receiver es ≡ Recalled r ∷ entries_of ys = cc in
    let same : Open v s ≡ Open w u = cc in
    let next = walk QS QR es Empty (Open v s) x (Waits m w u r ys) p (inl same) c.1.1 h rest f g in
    let R : Standing → Type 0 = λ z. SameJoins QS QR Empty z x (Idle (Stood m w u r ∷ ys)) in
    subst R (sym c.0) (record { joins = next.joins; stamps = next.stamps; sender = next.sender; receiver = next.receiver; values = next.values })
walk QS QR (ByReceiver (Offered v s reply) ∷ es) (Taken i) b x (Idle (Stood m w u r ∷ ys)) p q c h k f g =
    let rest : of_receiver es ≡ Recalled r ∷ entries_of ys = cc in
    let same : Open v s ≡ Open w u = cc in
    let next = walk QS QR es (Taken i) (Open v s) x (Waits m w u r ys) p (inl same) c.1.1 h rest f g in
    let R : Standing → Type 0 = λ z. SameJoins QS QR (Taken i) z x (Idle (Stood m w u r ∷ ys)) in
    subst R (sym c.0) (record { joins = next.joins; stamps = next.stamps; sender = next.sender; receiver = next.receiver; values = next.values })
-- the receiver recalls
walk QS QR (ByReceiver (Recalled reply) ∷ es) a b x (Idle []) p q c h k f g = cc
walk QS QR (ByReceiver (Recalled reply) ∷ es) a b x (Idle (AtOnce m w u j ∷ ys)) p q c h k f g = cc
walk QS QR (ByReceiver (Recalled reply) ∷ es) a b x (Idle (Stood m w u r ∷ ys)) p q c h k f g = cc
walk QS QR (ByReceiver (Recalled reply) ∷ es) a Empty x (Waits m w u r ys) p q c h k f g = absurd c
walk QS QR (ByReceiver (Recalled reply) ∷ es) a (Open v s) x (Waits m w u r ys) p q c h k f g =
    let rest : of_receiver es ≡ entries_of ys = cc in
    let e = c.0 in
    let rn : r ≡ None = cc in
    let next = walk QS QR es a Empty x (Idle ys) p refl c.1 h rest f g.1 in
    let P : Option Joined → Type 0 = λ z. SameJoins QS QR a (Open v s) x (Waits m w u z ys) in
    subst P (sym rn) (record { joins = next.joins; stamps = next.stamps; sender = next.sender; receiver = next.receiver; values = next.values })
walk QS QR (ByReceiver (Recalled reply) ∷ es) a (Taken j) x (Waits m w u r ys) p q c h k f g =
    let rest : of_receiver es ≡ entries_of ys = cc in
    let e = c.0 in
    let rn : r ≡ Some j = cc in
    let next = walk QS QR es a Empty x (Idle ys) p refl c.1 h rest f g.1 in
    let P : Option Joined → Type 0 = λ z. SameJoins QS QR a (Taken j) x (Waits m w u z ys) in
    subst P (sym rn) (record {
      joins = next.joins;
      stamps = next.stamps;
      sender = next.sender;
      receiver = ap (λ l. record { number = m; value = j.value; stamp = stamp_of_join j } ∷ l) next.receiver;
      values = next.values;
    })
