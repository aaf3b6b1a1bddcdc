-- What a call of a flash in memory does to what contracts see of it.
use Rattle.std.proofs.Common.{◌≡◌, ◌⊎◌, ◌↔◌, inl, inr, ⊎_elim, ℕ, zero, suc, ◌+◌, ◌≤◌, Bool, true}
use Rattle.std.proofs.Common.{false, IsTrue, ◌&&◌, nat_lt, if◌then◌else◌, List, [], ◌∷◌, length}
use Rattle.std.proofs.Common.{Option, Some, None, IfSome, Result, Ok, Err, IsErr, is_ok, refl, sym}
use Rattle.std.proofs.Common.{◌∙◌, ap, subst, arith}
use Rattle.std.specs.List.{range_with_len}
use Rattle.std.proofs.lemmas.Bool.{false≢true}
use Rattle.std.proofs.lemmas.List.{get_or-replicate, length-map}
use Rattle.std.proofs.lemmas.List.FromFn.{fill_by_all}
use Rattle.flash_pages.specs.Bytes.{blank, patch, DiffersIn, torn_byte, repeated}
use Rattle.flash_pages.specs.Flash.{IsSettled, MayLeaveOnly, GoesOn, Reads, Changes, Restarts}
use Rattle.flash_pages.specs.declared.plan.Outcome.{Outcome}
use Rattle.flash_pages.specs.declared.plan.Outcome.TheVariants.{Done, Torn, Off}
use Rattle.flash_pages.specs.Left.{left_by, with_left}
use Rattle.flash_pages.specs.Memory.{LeavesImagesSince}
use Rattle.flash_pages.specs.Plan.{is_done}
use Rattle.flash_pages.specs.Past.{Call, Write, Restarted, content, last_ok, Since, Past, MayLeave}
use Rattle.flash_pages.specs.Past.{after_call, memory_state}
use Rattle.flash_pages.specs.MemoryLaw.{Since-now, Since-only}
use Rattle.flash_pages.proofs.Patches.{length-blank, DiffersIn-refl, DiffersIn-patch}

-- torn bytes, of which there are none, are FF
repeated-nil : (n : ℕ) → repeated [] n ≡ blank n
unfolding repeated blank
repeated-nil n =
    sym (fill_by_all (torn_byte []) (blank n) n 0 (length-blank n)
    (λ k lt. get_or-replicate n k 255 0 lt))

-- a block torn by no bytes is erased
pub erased_block : (old before new : List ℕ) (at : ℕ) → new ≡ patch before at (repeated [] 4096)
    → before ≡ old → new ≡ patch old at (blank 4096)
erased_block old before new at is same =
    is ∙ ap (λ (l : List ℕ). patch l at (repeated [] 4096)) same
    ∙ ap (patch old at) (repeated-nil 4096)

length-range : (a n : ℕ) → length (range_with_len a n) ≡ n
length-range a zero = refl
length-range a (suc n) = ap suc (length-range (a + 1) n)

pub length-repeated : (torn : List ℕ) (n : ℕ) → length (repeated torn n) ≡ n
unfolding repeated
length-repeated torn n = length-map (range_with_len 0 n) (torn_byte torn) ∙ length-range 0 n

-- what a write leaves is what reads return after it
pub content-write : (first : List ℕ) (at n : ℕ) (left : Option (List ℕ)) (ok : Bool)
    (calls : List Call)
    → content first (Write at n left ok ∷ calls) ≡ with_left (content first calls) at left
content-write first at n None ok calls = refl
content-write first at n (Some xs) ok calls = refl

pub differs_left : (at n : ℕ) (left : Option (List ℕ)) (b : List ℕ) → at + n ≤ length b
    → IfSome left (λ xs. length xs ≡ n) → DiffersIn at n b (with_left b at left)
differs_left at n None b fits size = DiffersIn-refl at n b
differs_left at n (Some xs) b fits size =
    subst (λ (k : ℕ). DiffersIn at k b (patch b at xs)) size (DiffersIn-patch b at xs (omega arith))

module _ (first : List ℕ) where
  keeps_call : (call : Call) (calls : List Call) (t : ℕ) (image : List ℕ) → t ≤ length calls
      → Since first calls t image → Since first (call ∷ calls) t image
  keeps_call (Write at n left ok) calls t image le since = inr (le, inl since)
  keeps_call Restarted calls t image le since = inr (le, inl since)

  adds_call : (call : Call) (calls : List Call) (t : ℕ) (image : List ℕ) → t ≤ length calls
      → Since first (call ∷ calls) t image
      → Since first calls t image ⊎ Since first (call ∷ calls) (length calls) image
  adds_call (Write at n left ok) calls t image le (inl is) = inr (inl is)
  adds_call (Write at n left ok) calls t image le (inr earlier) =
      ⊎_elim (λ since. inl since) (λ inside. inr (inr (omega arith, inr inside))) earlier.1
  adds_call Restarted calls t image le (inl is) = inr (inl is)
  adds_call Restarted calls t image le (inr earlier) =
      ⊎_elim (λ since. inl since) (λ inside. inr (inr (omega arith, inr inside))) earlier.1

  -- each image has the flash's length
  sized_call : (size : ℕ) (call : Call) (calls : List Call)
      → ((t : ℕ) (image : List ℕ) → Since first calls t image → length image ≡ size)
      → length (content first (call ∷ calls)) ≡ size
      → (t : ℕ) (image : List ℕ) → Since first (call ∷ calls) t image → length image ≡ size
  sized_call size (Write at n left ok) calls sized now t image (inl is) = ap length is ∙ now
  sized_call size (Write at n left ok) calls sized now t image (inr earlier) =
      ⊎_elim (λ since. sized t image since)
      (λ differs. differs.same_length
      ∙ sized 0 (content first calls) (Since-now first calls 0 (content first calls) refl))
      earlier.1
  sized_call size Restarted calls sized now t image (inl is) = ap length is ∙ now
  sized_call size Restarted calls sized now t image (inr earlier) =
      ⊎_elim (λ since. sized t image since) (λ inside. sized (last_ok calls) image inside) earlier.1

-- with one more call that is kept, and with one that isn't
abbrev kept : Past → Call → Past
kept past call = record past { calls = call ∷ past.calls }

abbrev lost : Past → Past
lost past = record past { known = false }

module _ (past : Past) (b b' : List ℕ) (p e f p' e' f' : ℕ) (programmed : p ≤ p') (erased : e ≤ e')
    (faults : f ≤ f') where
  kept_time : (call : Call)
      → GoesOn (memory_state past b p e f) (memory_state (kept past call) b' p' e' f')
  kept_time call = record {
    later = omega arith;
    bytes_known = (λ some. refl, λ some. refl);
    images_known = λ says. says;
    images = λ says. record {
      keeps = λ t image le since. keeps_call past.first call past.calls t image le since;
      adds = λ t image le since. adds_call past.first call past.calls t image le since;
    };
    programmed = programmed;
    erased = erased;
    faults = faults;
  }

  lost_time : GoesOn (memory_state past b p e f) (memory_state (lost past) b' p' e' f')
  lost_time = record {
    later = omega arith;
    bytes_known = (λ some. refl, λ some. refl);
    images_known = λ says. absurd (false≢true says);
    images = λ says. absurd (false≢true says);
    programmed = programmed;
    erased = erased;
    faults = faults;
  }

and_left : (a b : Bool) → IsTrue (a && b) → IsTrue a
and_left true b both = refl
and_left false b both = both

-- past its room a restart leaves what reads return
lost_settled : (past : Past) (b : List ℕ) (p e f : ℕ) → IsSettled (memory_state (lost past) b p e f)
lost_settled past b p e f some image (inl is) = ap Some (sym is)
lost_settled past b p e f some image (inr since) = absurd (false≢true since.0)

lost_leaves : (past : Past) (b : List ℕ) (p e f : ℕ) (P : List ℕ → Type 0) → P b
    → MayLeaveOnly (memory_state (lost past) b p e f) P
lost_leaves past b p e f P here some image (inl is) = subst P (sym is) here
lost_leaves past b p e f P here some image (inr since) = absurd (false≢true since.0)

-- a program or an erase
module _ {E : Type 0} (past : Past) (at n : ℕ) (left : Option (List ℕ)) (ok : Bool)
    (b given : List ℕ)
    (p e f p' e' f' : ℕ) (result : Result Unit E)
    (replays : IsTrue past.known → content past.first past.calls ≡ b)
    (size : length given ≡ n) (fits : at + n ≤ length b)
    (left_size : IfSome left (λ xs. length xs ≡ n))
    (done : IsTrue ok → left ≡ Some given) (is : is_ok result ≡ ok) (programmed : p ≤ p')
    (erased : e ≤ e')
    (faults : f ≤ f') where
  abbrev call : Call
  call = Write at n left ok

  abbrev b' : List ℕ
  b' = with_left b at left

  abbrev Differs : List ℕ → Type 0
  Differs image = DiffersIn at (length given) b image

  differs : Differs (with_left b at left)
  differs =
      subst (λ (k : ℕ). DiffersIn at k b (with_left b at left)) (sym size)
      (differs_left at n left b fits left_size)

  done_bytes : IsTrue (is_ok result) → Some (with_left b at left) ≡ Some (patch b at given)
  done_bytes yes' = ap (λ (l : Option (List ℕ)). Some (with_left b at l)) (done (sym is ∙ yes'))

  module _ (known : IsTrue past.known) where
    same : content past.first past.calls ≡ b
    same = replays known

    wide : (image : List ℕ) → DiffersIn at n (content past.first past.calls) image → Differs image
    wide image d =
        subst (λ (k : ℕ). DiffersIn at k b image) (sym size)
        (subst (λ (l : List ℕ). DiffersIn at n l image) same d)

    after_is : (image : List ℕ) → image ≡ content past.first (call ∷ past.calls)
        → image ≡ with_left b at left
    after_is image now =
        now ∙ content-write past.first at n left ok past.calls
        ∙ ap (λ (l : List ℕ). with_left l at left) same

    after_it : (image : List ℕ) → image ≡ content past.first (call ∷ past.calls) → Differs image
    after_it image now = subst Differs (sym (after_is image now)) differs

    before_it : (image : List ℕ) → image ≡ content past.first past.calls → Differs image
    before_it image now = subst Differs (sym (now ∙ same)) (DiffersIn-refl at (length given) b)

    image_of : (image : List ℕ)
        → Since past.first (call ∷ past.calls) (length past.calls) image ↔ Differs image
    image_of image = (to, from)
      where
        to : Since past.first (call ∷ past.calls) (length past.calls) image → Differs image
        to (inl now) = after_it image now
        to (inr earlier) =
            ⊎_elim (λ since. before_it image (Since-only past.first past.calls image since))
            (wide image) earlier.1

        from : Differs image → Since past.first (call ∷ past.calls) (length past.calls) image
        from d =
            inr (
              omega arith,
              inr (subst (λ (k : ℕ). DiffersIn at k (content past.first past.calls) image) size
                  (subst (λ (l : List ℕ). DiffersIn at (length given) l image) (sym same) d)),
            )

    -- the images since the last Ok
    since_ok : (o : Bool) (image : List ℕ)
        → Since past.first (call ∷ past.calls)
        (if o then suc (length past.calls) else last_ok past.calls) image
        → Since past.first past.calls (last_ok past.calls) image ⊎ Differs image
    since_ok o image (inl now) = inr (after_it image now)
    since_ok true image (inr earlier) = absurd (omega (arith, earlier.0))
    since_ok false image (inr earlier) =
        ⊎_elim (λ since. inl since) (λ d. inr (wide image d)) earlier.1

    kept_leaves : (image : List ℕ) → MayLeave (kept past call) (with_left b at left) image
        → MayLeave past b image ⊎ Differs image
    kept_leaves image (inl now) = inr (subst Differs (sym now) differs)
    kept_leaves image (inr since) =
        ⊎_elim (λ was. inl (inr (known, was))) (λ d. inr d) (since_ok ok image since.1)

    only_after : (o : Bool) → IsTrue o → (image : List ℕ)
        → Since past.first (call ∷ past.calls)
        (if o then suc (length past.calls) else last_ok past.calls) image
        → image ≡ with_left b at left
    only_after true yes' image since =
        after_is image (Since-only past.first (call ∷ past.calls) image since)
    only_after false isn't image since = absurd (false≢true isn't)

    kept_settled : IsTrue ok → (image : List ℕ)
        → MayLeave (kept past call) (with_left b at left) image
        → Some (with_left b at left) ≡ Some image
    kept_settled yes' image (inl now) = ap Some (sym now)
    kept_settled yes' image (inr since) = ap Some (sym (only_after ok yes' image since.1))

  by_room : (keep : Bool) → (IsTrue keep → IsTrue past.known)
      → Changes at given (memory_state past b p e f)
      (memory_state (if keep then kept past call else lost past)
      (with_left b at left) p' e' f') result
  by_room false was = record {
    time = lost_time past b (with_left b at left) p e f p' e' f' programmed erased faults;
    done = done_bytes;
    settled = λ yes'. lost_settled past (with_left b at left) p' e' f';
    torn = differs;
    may_leave = lost_leaves past (with_left b at left) p' e' f'
        (λ image. MayLeave past b image ⊎ Differs image) (inr differs);
    images = λ says. absurd (false≢true says);
  }
  by_room true was = record {
    time = kept_time past b (with_left b at left) p e f p' e' f' programmed erased faults call;
    done = done_bytes;
    settled = λ yes' some image now. kept_settled (was refl) (sym is ∙ yes') image now;
    torn = differs;
    may_leave = λ some image now. kept_leaves (was refl) image now;
    images = λ says image. image_of (was refl) image;
  }

-- whether there is room for one more call
abbrev has_room : Past → Bool
has_room past = past.known && nat_lt (length past.calls) past.room

room_known : (past : Past) → IsTrue (has_room past) → IsTrue past.known
room_known past room = and_left past.known (nat_lt (length past.calls) past.room) room

pub Changes-memory : {E : Type 0} (past past' : Past) (at n : ℕ) (left : Option (List ℕ))
    (ok : Bool)
    (b b' given : List ℕ) (p e f p' e' f' : ℕ) (result : Result Unit E)
    → past' ≡ after_call past (Write at n left ok)
    → (IsTrue past.known → content past.first past.calls ≡ b) → b' ≡ with_left b at left
    → length given ≡ n
    → at + n ≤ length b → IfSome left (λ xs. length xs ≡ n) → (IsTrue ok → left ≡ Some given)
    → is_ok result ≡ ok
    → p ≤ p' → e ≤ e' → f ≤ f'
    → Changes at given (memory_state past b p e f) (memory_state past' b' p' e' f') result
Changes-memory {E} past past' at n left ok b b' given p e f p' e' f' result past_is replays b_is
    size fits left_size
    done is programmed erased faults =
    let after : Past → List ℕ → Type 0 =
    λ q l. Changes at given (memory_state past b p e f) (memory_state q l p' e' f') result in
    let changes : after (after_call past (Write at n left ok)) (with_left b at left) =
    by_room past at n left ok b given p e f p' e' f' result replays size fits left_size done is
    programmed erased
    faults (has_room past) (room_known past) in
    subst (λ (q : Past). after q b') (sym past_is)
    (subst (λ (l : List ℕ). after (after_call past (Write at n left ok)) l) (sym b_is) changes)

-- what a flash in memory keeps of its calls: they still return its bytes, and each image has the
-- flash's length
pub record IsKept (size : ℕ) (past : Past) (b : List ℕ) : Type 0 where
  pub replays : IsTrue past.known → content past.first past.calls ≡ b
  pub images_sized : IsTrue past.known → (t : ℕ) (image : List ℕ)
      → Since past.first past.calls t image
      → length image ≡ size

pub kept_after : (size : ℕ) (past past' : Past) (call : Call) (b b' : List ℕ)
    → past' ≡ after_call past call
    → IsKept size past b → (IsTrue past.known → content past.first (call ∷ past.calls) ≡ b')
    → length b' ≡ size
    → IsKept size past' b'
kept_after size past past' call b b' is before next sized =
    subst (λ (q : Past). IsKept size q b') (sym is) (by_test (has_room past) (room_known past))
  where
    by_test : (keep : Bool) → (IsTrue keep → IsTrue past.known)
        → IsKept size (if keep then kept past call else lost past) b'
    by_test true was = record {
      replays = next;
      images_sized = λ known. sized_call past.first size call past.calls (before.images_sized known)
          (ap length (next known) ∙ sized);
    }
    by_test false was = record {
      replays = λ says. absurd (false≢true says);
      images_sized = λ says. absurd (false≢true says);
    }

-- a read
pub Reads-memory : (past : Past) (b : List ℕ) (p e f f' : ℕ)
    → (IsTrue past.known → content past.first past.calls ≡ b) → f ≤ f'
    → Reads (memory_state past b p e f) (memory_state past b p e f')
Reads-memory past b p e f f' replays faults = record {
  time = record {
    later = omega arith;
    bytes_known = (λ some. some, λ some. some);
    images_known = λ says. says;
    images = λ says. record
        { keeps = λ t image le since. since; adds = λ t image le since. inl since };
    programmed = omega arith;
    erased = omega arith;
    faults = faults;
  };
  bytes = refl;
  may_leave = λ some image. (λ left. left, λ left. left);
  images = λ says image. (
    λ since. ap Some (sym (Since-only past.first past.calls image since ∙ replays says)),
    λ is. Since-now past.first past.calls (length past.calls) image
        (same_some image (replays says) is),
  );
  programmed = refl;
  erased = refl;
}
  where
    same_some : (image : List ℕ) → content past.first past.calls ≡ b → Some b ≡ Some image
        → image ≡ content past.first past.calls
    same_some image same is = let equal : b ≡ image = cc in sym (same ∙ equal)

-- a restart
module _ {E : Type 0} (past : Past) (b : List ℕ) (p e f : ℕ) (result : Result Unit E)
    (replays : IsTrue past.known → content past.first past.calls ≡ b) where
  module _ (known : IsTrue past.known) where
    inside_restart : (image : List ℕ)
        → Since past.first (Restarted ∷ past.calls)
        (length past.calls) image ↔ MayLeave past b image
    inside_restart image = (to, from)
      where
        to : Since past.first (Restarted ∷ past.calls) (length past.calls) image
            → MayLeave past b image
        to (inl now) = inl (now ∙ replays known)
        to (inr earlier) =
            ⊎_elim
            (λ since. inl (Since-only past.first past.calls image since ∙ replays known))
            (λ inside. inr (known, inside))
            earlier.1

        from : MayLeave past b image
            → Since past.first (Restarted ∷ past.calls) (length past.calls) image
        from (inl now) = inl (now ∙ sym (replays known))
        from (inr since) = inr (omega arith, inr since.1)

    restart_settles : (image : List ℕ) → MayLeave (kept past Restarted) b image → image ≡ b
    restart_settles image (inl now) = now
    restart_settles image (inr since) =
        Since-only past.first (Restarted ∷ past.calls) image since.1 ∙ replays known

  restarts_by_room : (keep : Bool) → (IsTrue keep → IsTrue past.known)
      → Restarts (memory_state past b p e f)
      (memory_state (if keep then kept past Restarted else lost past) b p e f) result
  restarts_by_room false was = record {
    time = lost_time past b b p e f p e f (omega arith) (omega arith) (omega arith);
    bytes = inl refl;
    settled = λ yes'. lost_settled past b p e f;
    may_leave = lost_leaves past b p e f (MayLeave past b) (inl refl);
    images = λ says. absurd (false≢true says);
    programmed = refl;
    erased = refl;
  }
  restarts_by_room true was = record {
    time = kept_time past b b p e f p e f (omega arith) (omega arith) (omega arith) Restarted;
    bytes = inl refl;
    settled = λ yes' some image now. ap Some (sym (restart_settles (was refl) image now));
    may_leave = λ some image now. inl (restart_settles (was refl) image now);
    images = λ says image. inside_restart (was refl) image;
    programmed = refl;
    erased = refl;
  }

pub Restarts-memory : {E : Type 0} (past past' : Past) (b : List ℕ) (p e f : ℕ)
    (result : Result Unit E)
    → past' ≡ after_call past Restarted → (IsTrue past.known → content past.first past.calls ≡ b)
    → Restarts (memory_state past b p e f) (memory_state past' b p e f) result
Restarts-memory {E} past past' b p e f result past_is replays =
    subst (λ (q : Past). Restarts (memory_state past b p e f) (memory_state q b p e f) result)
    (sym past_is)
    (restarts_by_room past b p e f result replays (has_room past) (room_known past))

-- a restart may leave just the images since the last Ok, and past the room just what reads return
pub leaves_images : (past : Past) (b : List ℕ) (p e f : ℕ)
    → (IsTrue past.known → content past.first past.calls ≡ b)
    → LeavesImagesSince (last_ok past.calls) (memory_state past b p e f)
leaves_images past b p e f replays = record {
  in_room = λ known image. (to known image, λ since. inr (known, since));
  past_room = λ unknown some image left. ap Some (sym (only unknown image left));
}
  where
    to : IsTrue past.known → (image : List ℕ) → MayLeave past b image
        → Since past.first past.calls (last_ok past.calls) image
    to known image (inl is) =
        Since-now past.first past.calls (last_ok past.calls) image (is ∙ sym (replays known))
    to known image (inr since) = since.1

    only : past.known ≡ false → (image : List ℕ) → MayLeave past b image → image ≡ b
    only unknown image (inl is) = is
    only unknown image (inr since) = absurd (false≢true (sym unknown ∙ since.0))

-- the moment of the last Ok
pub last_ok-after_call : (past past' : Past) (call : Call) (ok : Bool)
    → past' ≡ after_call past call
    → last_ok (call ∷ past.calls) ≡ (if ok then suc (length past.calls) else last_ok past.calls)
    → IsTrue past'.known
    → last_ok past'.calls ≡ (if ok then length past'.calls else last_ok past.calls)
last_ok-after_call past past' call ok is says known =
    let P : Past → Type 0 =
    λ q. IsTrue q.known → last_ok q.calls ≡ (if ok then length q.calls else last_ok past.calls) in
    subst P (sym is) (by_test (has_room past)) known
  where
    by_test : (keep : Bool) → IsTrue (if keep then kept past call else lost past).known
        → last_ok (if keep then kept past call else lost past).calls
        ≡ (if ok then length
        (if keep then kept past call else lost past).calls else last_ok past.calls)
    by_test true known = says
    by_test false known = absurd (false≢true known)

pub left_size : (outcome : Outcome) (torn : List ℕ) (n : ℕ)
    → IfSome (left_by outcome torn (blank n)) (λ xs. length xs ≡ n)
left_size Done torn n = length-blank n
left_size Torn torn n = length-repeated torn (length (blank n)) ∙ length-blank n
left_size Off torn n = tt

pub left_torn : (torn : List ℕ) (n : ℕ) → left_by Torn torn (blank n) ≡ Some (repeated torn n)
left_torn torn n = ap (λ (k : ℕ). Some (repeated torn k)) (length-blank n)

pub is_done-is : (outcome : Outcome) → is_done outcome ≡ true → outcome ≡ Done
is_done-is Done is = refl
is_done-is Torn is = absurd (false≢true is)
is_done-is Off is = absurd (false≢true is)

pub not_ok : {T E : Type 0} (r : Result T E) → IsErr r → is_ok r ≡ false
not_ok (Ok x) err = absurd (false≢true err)
not_ok (Err e) err = refl

-- the images are known as long as there is room
pub known-after_call : (past : Past) (call : Call)
    → (after_call past call).known ≡ (past.known && nat_lt (length past.calls) past.room)
known-after_call past call = by_test (has_room past) (room_known past)
  where
    by_test : (keep : Bool) → (IsTrue keep → IsTrue past.known)
        → (if keep then kept past call else lost past).known ≡ keep
    by_test true was = was refl
    by_test false was = refl

pub room-after_call : (past : Past) (call : Call) → (after_call past call).room ≡ past.room
room-after_call past call = by_test (has_room past)
  where
    by_test : (keep : Bool) → (if keep then kept past call else lost past).room ≡ past.room
    by_test true = refl
    by_test false = refl
