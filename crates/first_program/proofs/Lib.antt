mod ReloadLemmas
