use Rattle.std.proofs.Common.{◌≡◌, ℕ, ◌+◌, ◌≤◌, false, List, ◌++◌, length, sym, ◌∙◌, ap, arith}
use Rattle.std.proofs.Common.{Some, Result, Ok, Err}
use Rattle.std.proofs.lemmas.Bool.{true≢false}
use Rattle.std.proofs.lemmas.List.{length-append}
use Rattle.std.specs.Option.{ForSome}
use Rattle.std.specs.Prelude.{IfOk, is_err}
use Rattle.profile_install.specs.BuilderState.{BuilderState}
use Rattle.profile_install.proofs.tests.packages.built.Goals as goal

-- what came, with one piece more, and what is left behind it are no more than the package
still_fits : {T E : Type 0} (fed : Result T E) (old new : BuilderState)
    (piece behind rest whole : List ℕ)
    → IfOk fed (λ done. (bytes : List ℕ) × (old.bytes ≡ Some bytes)
    × (new ≡ record old { bytes = Some (bytes ++ piece) }))
    → is_err fed ≡ false
    → ForSome old.bytes (λ bytes. length bytes + length rest ≤ length whole)
    → length piece + length behind ≡ length rest
    → (came : List ℕ) → new.bytes ≡ Some came → length came + length behind ≤ length whole
still_fits (Ok done) old new piece behind rest whole ok good fits parts came is =
    let same : Some (ok.0 ++ piece) ≡ Some came =
    sym (ap (λ (b : BuilderState). b.bytes) ok.2) ∙ is in
    let joined : ok.0 ++ piece ≡ came = cc in
    omega (arith, fits ok.0 ok.1, parts, length-append ok.0 piece, ap length joined)
still_fits (Err fault) old new piece behind rest whole ok good fits parts came is = absurd
    (true≢false good)

pub loop-length-preserved : goal.loop-length-preserved
loop-length-preserved c =
    still_fits c.feed.result c.loop-length.builder c.feed.new.self c.split_at.result.0.now
    c.split_at.result.1.now c.loop-length.rest.now c.args.bytes.now c.feed.ensures.ok
    (sym c.is_err.ensures.value ∙ c.if-is_err.false) c.loop-length.invariant
    (omega (arith, c.split_at.ensures.front_len, c.split_at.ensures.back_len))
