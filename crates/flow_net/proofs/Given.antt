-- The texts of a process, told apart by their ports.
use Rattle.std.proofs.Common.{◌≡◌, ℕ, Bool, true, false, cond, List, [], ◌∷◌, ◌++◌, ap}
use Rattle.flow_net.specs.declared.draft.End.{End}
use Rattle.flow_net.specs.declared.draft.DraftPort.{DraftPort}
use Rattle.flow_net.specs.Drafts.{is_stream_at}
use Rattle.flow_net.specs.Finishes.{place_at, number_of, options_of, initials_of}

module _ (ports : List DraftPort) (end : End) (text : List ℕ) where
  -- One more text at a stream port.
  pub option_not : (xs : List (End × List ℕ)) → is_stream_at ports end ≡ true → options_of ports (xs ++ (end, text) ∷ []) ≡ options_of ports xs
  option_not [] is = ap (λ (b : Bool). cond b [] ((place_at ports end, text) ∷ [])) is
  option_not (x ∷ xs) is = by (is_stream_at ports x.0) (option_not xs is) where
    by : (b : Bool) → options_of ports (xs ++ (end, text) ∷ []) ≡ options_of ports xs → cond b (options_of ports (xs ++ (end, text) ∷ [])) ((place_at ports x.0, x.1) ∷ options_of ports (xs ++ (end, text) ∷ [])) ≡ cond b (options_of ports xs) ((place_at ports x.0, x.1) ∷ options_of ports xs)
    by true rest = rest
    by false rest = ap (λ (l : List (ℕ × List ℕ)). (place_at ports x.0, x.1) ∷ l) rest

  pub initial_too : (xs : List (End × List ℕ)) → is_stream_at ports end ≡ true → initials_of ports (xs ++ (end, text) ∷ []) ≡ initials_of ports xs ++ (number_of ports end, text) ∷ []
  initial_too [] is = ap (λ (b : Bool). cond b ((number_of ports end, text) ∷ []) []) is
  initial_too (x ∷ xs) is = by (is_stream_at ports x.0) (initial_too xs is) where
    by : (b : Bool) → initials_of ports (xs ++ (end, text) ∷ []) ≡ initials_of ports xs ++ (number_of ports end, text) ∷ []
        → cond b ((number_of ports x.0, x.1) ∷ initials_of ports (xs ++ (end, text) ∷ [])) (initials_of ports (xs ++ (end, text) ∷ [])) ≡ cond b ((number_of ports x.0, x.1) ∷ initials_of ports xs) (initials_of ports xs) ++ (number_of ports end, text) ∷ []
    by true rest = ap (λ (l : List (ℕ × List ℕ)). (number_of ports x.0, x.1) ∷ l) rest
    by false rest = rest

  -- One more text at an option port.
  pub option_too : (xs : List (End × List ℕ)) → is_stream_at ports end ≡ false → options_of ports (xs ++ (end, text) ∷ []) ≡ options_of ports xs ++ (place_at ports end, text) ∷ []
  option_too [] is = ap (λ (b : Bool). cond b [] ((place_at ports end, text) ∷ [])) is
  option_too (x ∷ xs) is = by (is_stream_at ports x.0) (option_too xs is) where
    by : (b : Bool) → options_of ports (xs ++ (end, text) ∷ []) ≡ options_of ports xs ++ (place_at ports end, text) ∷ []
        → cond b (options_of ports (xs ++ (end, text) ∷ [])) ((place_at ports x.0, x.1) ∷ options_of ports (xs ++ (end, text) ∷ [])) ≡ cond b (options_of ports xs) ((place_at ports x.0, x.1) ∷ options_of ports xs) ++ (place_at ports end, text) ∷ []
    by true rest = rest
    by false rest = ap (λ (l : List (ℕ × List ℕ)). (place_at ports x.0, x.1) ∷ l) rest

  pub initial_not : (xs : List (End × List ℕ)) → is_stream_at ports end ≡ false → initials_of ports (xs ++ (end, text) ∷ []) ≡ initials_of ports xs
  initial_not [] is = ap (λ (b : Bool). cond b ((number_of ports end, text) ∷ []) []) is
  initial_not (x ∷ xs) is = by (is_stream_at ports x.0) (initial_not xs is) where
    by : (b : Bool) → initials_of ports (xs ++ (end, text) ∷ []) ≡ initials_of ports xs → cond b ((number_of ports x.0, x.1) ∷ initials_of ports (xs ++ (end, text) ∷ [])) (initials_of ports (xs ++ (end, text) ∷ [])) ≡ cond b ((number_of ports x.0, x.1) ∷ initials_of ports xs) (initials_of ports xs)
    by true rest = ap (λ (l : List (ℕ × List ℕ)). (number_of ports x.0, x.1) ∷ l) rest
    by false rest = rest
