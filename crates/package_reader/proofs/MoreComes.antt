-- What stands in front doesn't change with what comes behind.
use Rattle.std.proofs.Common.{◌≡◌, ℕ, zero, suc, ◌+◌, List, [], ◌∷◌, ◌++◌, length, take, Option}
use Rattle.std.proofs.Common.{Some, None, refl, sym, ◌∙◌, ap, subst, ⊎_elim, inl, inr, arith}
use Rattle.std.proofs.Common.{append_assoc, length-append}
use Rattle.std.proofs.lemmas.List.{take-append-le}
use Rattle.std.proofs.lemmas.Bool.{cases_lt}
use Rattle.ber_tlv.specs.Head.{BeginsWithHead, RefusesHead}
use Rattle.ber_tlv.specs.declared.fault.TlvFault.TheVariants.{Short, BadTag, BadLength}
use Rattle.ber_tlv.proofs.Heads.{bad_tag_stays, bad_length_stays}
use Rattle.package_reader.specs.ReaderState.{ReaderState, fed}
use Rattle.package_reader.specs.NextHead.{EndBefore, SpellsNone, left_in, up_to_end}
use Rattle.package_reader.specs.Part.{HandsOut}
use Rattle.package_reader.specs.Turn.{IsWhole}
use Rattle.package_reader.specs.declared.part.Part.{Part}
use Rattle.package_reader.specs.declared.part.Part.TheVariants.{Head, Bytes, Close, More, Bad}

-- a front of more bytes begins with the front of fewer
longer_front : (k : ℕ) (u x : List ℕ) → (y : List ℕ) × (take k (u ++ x) ≡ take k u ++ y)
longer_front zero [] x = (take zero x, refl)
longer_front (suc k) [] x = (take (suc k) x, refl)
longer_front zero (a ∷ u) x = ([], refl)
longer_front (suc k) (a ∷ u) x = let h = longer_front k u x in (h.0, ap (λ s. a ∷ s) h.1)

front_of_more : (left : Option ℕ) (u x : List ℕ) → (y : List ℕ) × (up_to_end left (u ++ x) ≡ up_to_end left u ++ y)
front_of_more None u x = (x, refl)
front_of_more (Some left) u x = longer_front left u x

head_stays : (bytes more rest : List ℕ) (t n : ℕ) → BeginsWithHead bytes t n rest → BeginsWithHead (bytes ++ more) t n (rest ++ more)
head_stays bytes more rest t n p = record {
  head = p.head;
  spelled = p.spelled;
  whole = ap (λ s. s ++ more) p.whole ∙ append_assoc p.head rest more;
}

whole_front : (left : Option ℕ) (u x : List ℕ) → (¬ EndBefore left u) → up_to_end left (u ++ x) ≡ up_to_end left u
whole_front None u x h = absurd (h tt)
whole_front (Some left) u x h =
    ⊎_elim (λ less. absurd (h less)) (λ more. take-append-le left u x more) (cases_lt (length u) left)

still_over : (left : Option ℕ) (u x : List ℕ) → (¬ EndBefore left u) → ¬ EndBefore left (u ++ x)
still_over None u x h = λ e. h tt
still_over (Some left) u x h = λ e. h (let n : length (u ++ x) ≡ length u + length x = length-append u x in omega arith)

none_stays : (left : Option ℕ) (u x : List ℕ) → SpellsNone left u → SpellsNone left (u ++ x)
none_stays left u x none =
    let f = front_of_more left u x in
    ⊎_elim (λ bad. inl (subst (λ (s : List ℕ). RefusesHead s BadTag) (sym f.1) (bad_tag_stays (up_to_end left u) f.0 bad)))
    (⊎_elim (λ bad. inr (inl (subst (λ (s : List ℕ). RefusesHead s BadLength) (sym f.1) (bad_length_stays (up_to_end left u) f.0 bad))))
    (⊎_elim (λ past. inr (inr (inl (record {
      tag = past.tag;
      n = past.n;
      rest = past.rest ++ f.0;
      begins = record {
        head = past.begins.head;
        spelled = past.begins.spelled;
        whole = f.1 ∙ ap (λ s. s ++ f.0) past.begins.whole ∙ append_assoc past.begins.head past.rest f.0;
      };
      passes = past.passes;
    }))))
    (λ short. inr (inr (inr (subst (λ (s : List ℕ). RefusesHead s Short) (sym (whole_front left u x short.1)) short.0, still_over left u x short.1))))))
    none

pub stays : (old new : ReaderState) (part : Part) (piece : List ℕ) → IsWhole part → HandsOut old part new → HandsOut (fed old piece) part (record (fed new piece) { shown = new.shown })
stays old new (Head tag n place) piece w h = record {
  awaited = record { unended = h.awaited.unended; value = h.awaited.value };
  here = h.here;
  takes = record {
    unread = ap (λ s. s ++ piece) h.takes.unread ∙ append_assoc new.shown new.unread piece;
    place = h.takes.place;
  };
  head = head_stays old.unread piece new.unread tag n h.head;
  fits = h.fits;
  ends = h.ends;
  value = h.value;
}
stays old new (Bytes count) piece w h = absurd w
stays old new Close piece w h = record {
  ends = h.ends;
  rest = ap (λ (s : ReaderState). record (fed s piece) { shown = s.shown }) h.rest;
}
stays old new More piece w h = absurd w
stays old new (Bad place) piece w h = record {
  awaited = record { unended = h.awaited.unended; value = h.awaited.value };
  here = h.here;
  none = none_stays (left_in old.ends old.place) old.unread piece h.none;
  stays = ap (λ (s : ReaderState). record (fed s piece) { shown = s.shown }) h.stays;
}
