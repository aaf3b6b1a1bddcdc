use Rattle.std.proofs.Common.{◌≡◌, ◌≢◌, ℕ, List, [], ◌∷◌, length, get_or, inl, inr, refl, ap, lit≤}
use Rattle.std.proofs.Common.{arith}
use Rattle.plain_lists.specs.EachTwo.{EachTwo}
use Rattle.std.specs.List.{AllByRecursion}
use Rattle.file_rows.specs.Content.{AreFiles, ArePins, IsValid, heads_of, use_of}
use Rattle.file_rows.specs.FileHead.{IsFile, ShareName, ShareSfi}
use Rattle.file_rows.specs.declared.head.Kind.TheVariants.{Master, Linear, Transparent}
use Rattle.profile_card.specs.Sample.{sample, sample_file}

-- what the files take of the quota
pub use_of-sample : use_of sample.rows ≡ 781
unfolding sample_file
use_of-sample = refl

no_master_transparent : Transparent ≡ Master → ⊥
no_master_transparent e = cc

no_master_linear : Linear ≡ Master → ⊥
no_master_linear e = cc

-- a file in the MF isn't the MF
in_master : (id : ℕ) → id ∷ [] ≢ []
in_master id e = absurd (omega (arith, ap length e))

not_master : (id : ℕ) → [] ≢ id ∷ []
not_master id e = absurd (omega (arith, ap length e))

-- two of other identifiers aren't one
apart : (a b : ℕ) → a ≢ b → a ∷ [] ≢ b ∷ []
apart a b other e = other (ap (λ (path : List ℕ). get_or path 0 0) e)

each_file : AllByRecursion IsFile (heads_of sample.rows)
unfolding sample_file
each_file = (
  record { depth = lit≤ tt; form = record { path = refl; name = refl; bare = record { size = refl; record_len = refl; sfi = refl } } },
  (
    record { depth = lit≤ tt; form = record { path = in_master 0x2F05; name = refl; sfi = lit≤ tt; record_len = refl; smallest = lit≤ tt; largest = lit≤ tt } },
    (
      record { depth = lit≤ tt; form = record { path = in_master 0x2FE2; name = refl; sfi = lit≤ tt; record_len = refl; smallest = lit≤ tt; largest = lit≤ tt } },
      (
        record { depth = lit≤ tt; form = record { path = in_master 0x2F00; name = refl; sfi = lit≤ tt; shortest = lit≤ tt; longest = lit≤ tt; records = (4, lit≤ tt, lit≤ tt, refl) } },
        (
          record { depth = lit≤ tt; form = record { path = in_master 0x2F06; name = refl; sfi = lit≤ tt; shortest = lit≤ tt; longest = lit≤ tt; records = (10, lit≤ tt, lit≤ tt, refl) } },
          (
            record { depth = lit≤ tt; form = record { path = in_master 0x2F08; name = refl; sfi = lit≤ tt; record_len = refl; smallest = lit≤ tt; largest = lit≤ tt } },
            tt,
          ),
        ),
      ),
    ),
  ),
)

sample_paths : EachTwo (λ one other. one.path ≢ other.path) (heads_of sample.rows)
unfolding sample_file
sample_paths = (
  (not_master 0x2F05, (not_master 0x2FE2, (not_master 0x2F00, (not_master 0x2F06, (not_master 0x2F08, tt))))),
  (
    (
      apart 0x2F05 0x2FE2 (λ e. omega (arith, e)),
      (apart 0x2F05 0x2F00 (λ e. omega (arith, e)), (apart 0x2F05 0x2F06 (λ e. omega (arith, e)), (apart 0x2F05 0x2F08 (λ e. omega (arith, e)), tt))),
    ),
    (
      (apart 0x2FE2 0x2F00 (λ e. omega (arith, e)), (apart 0x2FE2 0x2F06 (λ e. omega (arith, e)), (apart 0x2FE2 0x2F08 (λ e. omega (arith, e)), tt))),
      (
        (apart 0x2F00 0x2F06 (λ e. omega (arith, e)), (apart 0x2F00 0x2F08 (λ e. omega (arith, e)), tt)),
        ((apart 0x2F06 0x2F08 (λ e. omega (arith, e)), tt), (tt, tt)),
      ),
    ),
  ),
)

sample_sfis : EachTwo (λ one other. ¬ ShareSfi one other) (heads_of sample.rows)
unfolding sample_file
sample_sfis = (
  ((λ s. s.given refl), ((λ s. s.given refl), ((λ s. s.given refl), ((λ s. s.given refl), ((λ s. s.given refl), tt))))),
  (
    ((λ s. absurd (omega (arith, s.same))), ((λ s. absurd (omega (arith, s.same))), ((λ s. absurd (omega (arith, s.same))), ((λ s. absurd (omega (arith, s.same))), tt)))),
    (
      ((λ s. absurd (omega (arith, s.same))), ((λ s. absurd (omega (arith, s.same))), ((λ s. absurd (omega (arith, s.same))), tt))),
      (
        ((λ s. absurd (omega (arith, s.same))), ((λ s. absurd (omega (arith, s.same))), tt)),
        (((λ s. absurd (omega (arith, s.same))), tt), (tt, tt)),
      ),
    ),
  ),
)

sample_names : EachTwo (λ one other. ¬ ShareName one other) (heads_of sample.rows)
unfolding sample_file
sample_names = (
  ((λ s. s.given refl), ((λ s. s.given refl), ((λ s. s.given refl), ((λ s. s.given refl), ((λ s. s.given refl), tt))))),
  (
    ((λ s. s.given refl), ((λ s. s.given refl), ((λ s. s.given refl), ((λ s. s.given refl), tt)))),
    (
      ((λ s. s.given refl), ((λ s. s.given refl), ((λ s. s.given refl), tt))),
      (((λ s. s.given refl), ((λ s. s.given refl), tt)), (((λ s. s.given refl), tt), (tt, tt))),
    ),
  ),
)

sample_files : AreFiles sample.rows
unfolding sample_file
sample_files = record {
  tree = (
    refl,
    (no_master_transparent, (no_master_transparent, (no_master_linear, (no_master_linear, (no_master_transparent, tt))))),
    (
      (0, _, lit≤ tt, refl, record { kind = refl; path = (0x2F05, refl) }),
      (
        (0, _, lit≤ tt, refl, record { kind = refl; path = (0x2FE2, refl) }),
        (
          (0, _, lit≤ tt, refl, record { kind = refl; path = (0x2F00, refl) }),
          (
            (0, _, lit≤ tt, refl, record { kind = refl; path = (0x2F06, refl) }),
            (
              (0, _, lit≤ tt, refl, record { kind = refl; path = (0x2F08, refl) }),
              tt,
            ),
          ),
        ),
      ),
    ),
  );
  each = each_file;
  bodies = (refl, (refl, (refl, (refl, (refl, (refl, tt))))));
  paths = sample_paths;
  sfis = sample_sfis;
  names = sample_names;
}

sample_pins : ArePins (heads_of sample.rows) sample.pins
unfolding sample_file
sample_pins = record {
  each = (
    record { smallest = lit≤ tt; largest = lit≤ tt; key = inl (inl (lit≤ tt, lit≤ tt), refl); tries = record { some = lit≤ tt; few = lit≤ tt; left = lit≤ tt }; puk = tt },
    (record { smallest = lit≤ tt; largest = lit≤ tt; key = inl (inr (inl (lit≤ tt, lit≤ tt)), refl); tries = record { some = lit≤ tt; few = lit≤ tt; left = lit≤ tt }; puk = tt }, tt),
  );
  homes = ((0, _, lit≤ tt, refl, (refl, refl)), ((0, _, lit≤ tt, refl, (refl, refl)), tt));
  numbers = (((λ e. omega (arith, e)), tt), (tt, tt));
  keys = (((λ s. absurd (omega (arith, s.key))), tt), (tt, tt));
}

-- a card may hold it
pub IsValid-sample : IsValid sample
IsValid-sample = record {
  quota = rw use_of-sample (lit≤ tt);
  few_pins = lit≤ tt;
  system = inr (record { files = sample_files; pins = sample_pins });
}
