-- A value has one answer, and the loop over its objects comes to it.
use Rattle.std.proofs.Common.{◌≡◌, ◌≢◌, ℕ, false, List, [], ◌∷◌, ◌++◌, Result, Ok, Err, refl, sym}
use Rattle.std.proofs.Common.{◌∙◌, ap, subst, inl, inr, ⊎_elim, arith, append_assoc, append-nil}
use Rattle.std.proofs.lemmas.Bool.{true≢false}
use Rattle.ber_tlv.specs.Tlv.{BeginsWith, Refuses}
use Rattle.ber_tlv.specs.Walk.{Object, LeadWith}
use Rattle.ber_tlv.specs.declared.fault.TlvFault.{TlvFault}
use Rattle.ber_tlv.proofs.Reading.{one_tlv}
use Rattle.ber_tlv.proofs.Refusal.{not_refused}
use Rattle.ber_tlv.proofs.Walking.{shorter, lead_with_one_more}
use Rattle.fcp_codec.specs.declared.fault.FcpFault.{FcpFault}
use Rattle.fcp_codec.specs.declared.fault.FcpFault.TheVariants.{BadField}
use Rattle.fcp_codec.specs.declared.fcp.Fcp.{Fcp}
use Rattle.fcp_codec.specs.declared.read.Fields.{Fields}
use Rattle.fcp_codec.specs.Reading.{is_bad, NoneIsBad, StopsAt, ReadsFcp, fcp_of}
use Rattle.fcp_codec.specs.State.{Keep, TakesOneMore}

no_object : (t : ℕ) (v r : List ℕ) → ¬ BeginsWith [] t v r
no_object t v r = λ p. let s = shorter p in absurd (omega arith)

same_object : (x y : Object) → x.tag ≡ y.tag → x.value ≡ y.value → x ≡ y
same_object x y a b =
    let e : (x.tag, x.value) ≡ (y.tag, y.value) = cc in
    let made : ℕ × List ℕ → Object = λ p. record { tag = p.0; value = p.1 } in
    ap made e

-- bytes begin with one object at most
one_object : (bytes : List ℕ) (x y : Object) (r s : List ℕ) → BeginsWith bytes x.tag x.value r → BeginsWith bytes y.tag y.value s → (x ≡ y) × (r ≡ s)
one_object bytes x y r s p q =
    let h = one_tlv bytes _ _ _ _ _ _ p q in (same_object x y h.0 h.1, h.2)

-- where a good object stands nothing stops
clash : (before : List Object) (bytes : List ℕ) (object : Object) (behind : List ℕ) (tag : ℕ) → BeginsWith bytes object.tag object.value behind → is_bad before object ≡ false → ¬ StopsAt before bytes tag
clash before bytes object behind tag p good = ⊎_elim
    (λ s. absurd (true≢false (sym s.3 ∙ ap (is_bad before) (one_object bytes s.0 object s.1 behind s.2 p).0 ∙ good)))
    (λ s. not_refused bytes object.tag object.value behind p s.1 s.2)

-- it stops for one reason
one_stop : (before : List Object) (bytes : List ℕ) (t u : ℕ) → StopsAt before bytes t → StopsAt before bytes u → t ≡ u
one_stop before bytes t u p q = ⊎_elim
    (λ a. ⊎_elim
    (λ b. a.4 ∙ ap (λ (o : Object). o.tag) (one_object bytes a.0 b.0 a.1 b.1 a.2 b.2).0 ∙ sym b.4)
    (λ b. absurd (not_refused bytes a.0.tag a.0.value a.1 a.2 b.1 b.2))
    q)
    (λ a. ⊎_elim
    (λ b. absurd (not_refused bytes b.0.tag b.0.value b.1 b.2 a.1 a.2))
    (λ b. a.3 ∙ sym b.3)
    q)
    p

-- a whole list is one list of objects
one_list : (bytes : List ℕ) (os ps : List Object) → LeadWith bytes os [] → LeadWith bytes ps [] → os ≡ ps
one_list bytes [] [] p q = refl
one_list bytes [] (y ∷ ps) p q = absurd (no_object _ _ _ (subst (λ b. BeginsWith b y.tag y.value q.0) p q.1))
one_list bytes (x ∷ os) [] p q = absurd (no_object _ _ _ (subst (λ b. BeginsWith b x.tag x.value p.0) q p.1))
one_list bytes (x ∷ os) (y ∷ ps) p q =
    let h = one_object bytes x y p.0 q.0 p.1 q.1 in
    let i : os ≡ ps = one_list q.0 os ps (subst (λ b. LeadWith b os []) h.1 p.2) q.2 in
    let j : x ≡ y = h.0 in
    cc

-- the objects before and one more, and then others
regroup : (P : List Object → Type 0) (before : List Object) (x y : Object) (others : List Object) → x ≡ y → P (before ++ y ∷ others) → P ((before ++ x ∷ []) ++ others)
regroup P before x y others e h = subst P (sym (append_assoc before (x ∷ []) others)) (subst (λ o. P (before ++ o ∷ others)) (sym e) h)

-- what is read isn't refused
not_both : (before : List Object) (bytes : List ℕ) (os ps : List Object) (rest : List ℕ) (tag : ℕ) → LeadWith bytes os [] → NoneIsBad before os → LeadWith bytes ps rest → StopsAt (before ++ ps) rest tag → ⊥
not_both before bytes [] [] rest tag p good q stop =
    let empty : rest ≡ [] = sym q ∙ p in
    ⊎_elim
    (λ s. no_object _ _ _ (subst (λ b. BeginsWith b s.0.tag s.0.value s.1) empty s.2))
    (λ s. s.0 empty)
    stop
not_both before bytes [] (y ∷ ps) rest tag p good q stop = no_object _ _ _ (subst (λ b. BeginsWith b y.tag y.value q.0) p q.1)
not_both before bytes (x ∷ os) [] rest tag p good q stop =
    clash before bytes x p.0 tag p.1 good.0 (subst (λ b. StopsAt before b tag) (sym q) (subst (λ s. StopsAt s rest tag) (append-nil before) stop))
not_both before bytes (x ∷ os) (y ∷ ps) rest tag p good q stop =
    let h = one_object bytes x y p.0 q.0 p.1 q.1 in
    not_both (before ++ x ∷ []) q.0 os ps rest tag (subst (λ b. LeadWith b os []) h.1 p.2) good.1 q.2 (regroup (λ s. StopsAt s rest tag) before x y ps h.0 stop)

-- what is refused is refused at one place
one_place : (before : List Object) (bytes : List ℕ) (os ps : List Object) (r s : List ℕ) (t u : ℕ)
    → LeadWith bytes os r → NoneIsBad before os → StopsAt (before ++ os) r t
    → LeadWith bytes ps s → NoneIsBad before ps → StopsAt (before ++ ps) s u → t ≡ u
one_place before bytes [] [] r s t u p good stop q fine halt =
    one_stop (before ++ []) r t u stop (subst (λ b. StopsAt (before ++ []) b u) (sym q ∙ p) halt)
one_place before bytes [] (y ∷ ps) r s t u p good stop q fine halt =
    absurd (clash before bytes y q.0 t q.1 fine.0 (subst (λ b. StopsAt before b t) (sym p) (subst (λ o. StopsAt o r t) (append-nil before) stop)))
one_place before bytes (x ∷ os) [] r s t u p good stop q fine halt =
    absurd (clash before bytes x p.0 u p.1 good.0 (subst (λ b. StopsAt before b u) (sym q) (subst (λ o. StopsAt o s u) (append-nil before) halt)))
one_place before bytes (x ∷ os) (y ∷ ps) r s t u p good stop q fine halt =
    let h = one_object bytes x y p.0 q.0 p.1 q.1 in
    one_place (before ++ x ∷ []) q.0 os ps r s t u
    (subst (λ b. LeadWith b os r) h.1 p.2) good.1 (regroup (λ o. StopsAt o r t) before x x os refl stop)
    q.2 (subst (λ o. NoneIsBad (before ++ o ∷ []) ps) (sym h.0) fine.1) (regroup (λ o. StopsAt o s u) before x y ps h.0 halt)

pub one_answer : (value : List ℕ) (a b : Result Fcp FcpFault) → ReadsFcp value a → ReadsFcp value b → a ≡ b
one_answer value (Ok x) (Ok y) p q = ap Ok (p.says ∙ ap fcp_of (one_list value p.objects q.objects p.whole q.whole) ∙ sym q.says)
one_answer value (Ok x) (Err (BadField tag)) p q = absurd (not_both [] value p.objects q.objects q.rest tag p.whole p.good q.prefix q.stop)
one_answer value (Err (BadField tag)) (Ok y) p q = absurd (not_both [] value q.objects p.objects p.rest tag q.whole q.good p.prefix p.stop)
one_answer value (Err (BadField t)) (Err (BadField u)) p q =
    ap (λ n. Err (BadField n)) (one_place [] value p.objects q.objects p.rest q.rest t u p.prefix p.good p.stop q.prefix q.good q.stop)

-- what the loop keeps: objects without a bad one were read, and the slots have what their fields say
pub record Progress (value rest : List ℕ) (fields : Fields) : Type 0 where
  pub objects : List Object
  pub prefix : LeadWith value objects rest
  pub good : NoneIsBad [] objects
  pub kept : Keep objects fields

pub begun : (value : List ℕ) (fields : Fields) → Keep [] fields → Progress value value fields
begun value fields k = record { objects = []; prefix = refl; good = tt; kept = k }

good_more : (before objects : List Object) (object : Object) → NoneIsBad before objects → is_bad (before ++ objects) object ≡ false → NoneIsBad before (objects ++ object ∷ [])
good_more before [] object g b = (subst (λ s. is_bad s object ≡ false) (append-nil before) b, tt)
good_more before (x ∷ objects) object g b =
    (g.0, good_more (before ++ x ∷ []) objects object g.1 (regroup (λ s. is_bad s object ≡ false) before x x objects refl b))

pub gone_on : (value rest behind : List ℕ) (object : Object) (old new : Fields) → Progress value rest old → BeginsWith rest object.tag object.value behind
    → ((objects : List Object) → Keep objects old → TakesOneMore objects object new (Ok tt)) → Progress value behind new
gone_on value rest behind object old new p b taken =
    let h = taken p.objects p.kept in
    record {
      objects = p.objects ++ object ∷ [];
      prefix = lead_with_one_more value p.objects rest behind object p.prefix b;
      good = good_more [] p.objects object p.good h.0;
      kept = h.1;
    }

pub stopped : (value rest behind : List ℕ) (object : Object) (old new : Fields) (fault : FcpFault) → Progress value rest old → BeginsWith rest object.tag object.value behind
    → ((objects : List Object) → Keep objects old → TakesOneMore objects object new (Err fault)) → ReadsFcp value (Err fault)
stopped value rest behind object old new (BadField tag) p b taken =
    let h = taken p.objects p.kept in
    let e : tag ≡ object.tag = cc in
    record { objects = p.objects; rest = rest; prefix = p.prefix; good = p.good; stop = inl (object, behind, b, h.0, e) }

pub broken : (value rest : List ℕ) (fields : Fields) (fault : TlvFault) → Progress value rest fields → rest ≢ [] → Refuses rest fault → ReadsFcp value (Err (BadField 0))
broken value rest fields fault p n r =
    record { objects = p.objects; rest = rest; prefix = p.prefix; good = p.good; stop = inr (n, fault, r, refl) }

pub read : (value : List ℕ) (fields : Fields) (fcp : Fcp) → Progress value [] fields → ((objects : List Object) → Keep objects fields → fcp ≡ fcp_of objects) → ReadsFcp value (Ok fcp)
read value fields fcp p says = record { objects = p.objects; whole = p.prefix; good = p.good; says = says p.objects p.kept }
