mod OutputLemmas
